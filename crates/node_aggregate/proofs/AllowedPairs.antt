-- Where each kept pair may be flown.
use Rattle.std.proofs.Common.{◌≡◌, ◌==◌, true, refl, arith}
use Rattle.std.proofs.lemmas.Bool.Decides.{nat_tests}
use Rattle.sums.specs.Below.{sum_below}
use Rattle.sums.proofs.Naturals.{zero_number}
use Rattle.sums.proofs.SumBounds.{term_le}
use Rattle.sums.proofs.Tests.{both_true, by_test, no_both}
use Rattle.fleet_model.specs.declared.tables.Tables.{Tables}
use Rattle.fleet_model.specs.Kept.{Domains, all_pairs}
use Rattle.fleet_model.specs.Schedule.{choices_in, legs_in}
use Rattle.fleet_model.specs.Whole.{KeepAllowed}
use Rattle.node_aggregate.proofs.island_cut.Counted.{none_counted}
use Rattle.node_aggregate.specs.KeptIdles.{is_strange, keeps_allowed, strange_on}

pub allowed_tested : (t : Tables) (keeps : Domains) → keeps_allowed t keeps ≡ true → KeepAllowed t keeps
unfolding keeps_allowed
allowed_tested t keeps e = record {
  each = λ p pair kept. by_test (all_pairs t p)
      (λ allowed. allowed)
      (λ off.
      let none : (strange_on t keeps p.leg == 0) ≡ true = let most = term_le (strange_on t keeps) p.leg (legs_in t) pair.leg in let all = zero_number (sum_below (strange_on t keeps) (legs_in t)) e in grind (arith, nat_tests) in
      absurd (no_both (none_counted (is_strange t keeps p.leg) (choices_in t p.leg) p.choice none pair.choice) (both_true _ _ kept (rw off refl))));
}
