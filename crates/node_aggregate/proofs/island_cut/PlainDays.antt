-- What the test of a plain day says.
use Rattle.std.proofs.Common.{◌≡◌, ℕ, ◌<◌, ◌==◌, ◌&&◌, not, true, false, Option, Some, None, IsSome, is_some, refl, ap, inl, inr, arith}
use Rattle.std.proofs.lemmas.Bool.{cases_lt, eqb-true, le-ltb}
use Rattle.std.proofs.lemmas.Bool.Decides.{nat_tests}
use Rattle.sums.specs.Below.{sum_below}
use Rattle.sums.proofs.Naturals.{zero_number}
use Rattle.sums.proofs.SumBounds.{term_le}
use Rattle.sums.proofs.Tests.{both_true, no_both, parts_true}
use Rattle.fleet_model.specs.declared.parts.Pair.{Pair}
use Rattle.fleet_model.specs.declared.tables.Tables.{Tables}
use Rattle.fleet_model.specs.LeftOut.{leaves_out, left_out_on}
use Rattle.fleet_model.specs.Legal.{cost_of}
use Rattle.fleet_model.specs.Schedule.{IsPair, choices_in, days_in, departures_in, fleet_by, fleets_in, legs_in, parking_of, stations_in}
use Rattle.node_aggregate.specs.island_cut.PlainDay.{choices_left_out, is_plain_day, limits_in}
use Rattle.node_aggregate.proofs.island_cut.Counted.{none_counted}

pub record IsPlainDay (t : Tables) : Type 0 where
  pub one_day : days_in t ≡ 1
  pub once : departures_in t ≡ legs_in t
  pub no_limit : (s : ℕ) → s < stations_in t → parking_of t s ≡ None
  pub flown : (p : Pair) → IsPair t p → IsSome (cost_of t p) → fleet_by t p < fleets_in t

nothing : (o : Option ℕ) → is_some o ≡ false → o ≡ None
nothing None e = refl
nothing (Some n) e = cc

no_limits : (t : Tables) → (limits_in t == 0) ≡ true → (s : ℕ) → s < stations_in t → parking_of t s ≡ None
unfolding limits_in
no_limits t e s within = nothing (parking_of t s) (none_counted (λ r. is_some (parking_of t r)) (stations_in t) s e within)

none_left_out : (t : Tables) → (choices_left_out t == 0) ≡ true → (l c : ℕ) → l < legs_in t → c < choices_in t l → leaves_out t l c ≡ false
unfolding choices_left_out left_out_on
none_left_out t e l c below choice =
    let none : (left_out_on t l == 0) ≡ true = let most = term_le (left_out_on t) l (legs_in t) below in let all = zero_number (sum_below (left_out_on t) (legs_in t)) e in grind (arith, nat_tests) in
    none_counted (leaves_out t l) (choices_in t l) c none choice

pub day_tested : (t : Tables) → is_plain_day t ≡ true → IsPlainDay t
unfolding is_plain_day
day_tested t e =
    let parts = parts_true ((days_in t == 1) && (departures_in t == legs_in t) && (limits_in t == 0)) _ e in
    let front = parts_true ((days_in t == 1) && (departures_in t == legs_in t)) _ parts.0 in
    let first = parts_true (days_in t == 1) _ front.0 in
    record {
      one_day = eqb-true _ _ first.0;
      once = eqb-true _ _ first.1;
      no_limit = no_limits t front.1;
      flown = λ p pair allowed. elim (cases_lt (fleet_by t p) (fleets_in t)) [
        | inl below ↦ below
        | inr not_below ↦ absurd (no_both (none_left_out t parts.1 p.leg p.choice pair.leg pair.choice) (both_true _ _ (ap not (le-ltb (fleet_by t p) (fleets_in t) not_below)) allowed))
      ];
    }
