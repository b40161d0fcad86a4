-- Before the first window: of each leg how many fleets have a cost on it, and by how many pairs legs may be flown.
use Rattle.std.proofs.Common.{◌≡◌, ℕ, ◌*◌, ◌<◌, ◌≤◌, [], length, slice_index, replicate, is_some, refl, sym, subst, arith}
use Rattle.std.proofs.lemmas.List.{length-replicate}
use Rattle.std.proofs.lemmas.Nat.{mul-le}
use Rattle.sums.specs.Below.{sum_below}
use Rattle.sums.proofs.Lists.{zero_at}
use Rattle.sums.proofs.Places.{get_or-list_below, length-list_below}
use Rattle.sums.proofs.Sums.{count_below-le, sum_below-le}
use Rattle.fleet_model.specs.Costs.{cost_in}
use Rattle.fleet_model.specs.Schedule.{legs_in}
use Rattle.fleet_model.specs.Windows.{times_of}
use Rattle.fleet_model.specs.declared.limits.TheConstants.{MAX_TRIPLES}
use Rattle.fleet_model.specs.declared.tables.Tables.{Tables}
use Rattle.fleet_model.proofs.Departures.{some_times}
use Rattle.sched_read.specs.retime_windows.Counted.{AreFleetCounts, AreWindowsCounted}
use Rattle.sched_read.specs.retime_windows.Keys.{fleet_counts, fleets_on, triples_by, triples_of}

pub legs_counted : (t : Tables) → length (fleet_counts t) ≡ legs_in t
legs_counted t = length-list_below (fleets_on t) (legs_in t)

pub count_of : (t : Tables) (l : ℕ) → l < legs_in t → slice_index (fleet_counts t) l ≡ fleets_on t l
count_of t l below = get_or-list_below (fleets_on t) (legs_in t) l 0 below

pub counts_known : (t : Tables) → AreFleetCounts (length (fleet_counts t)) (fleet_counts t)
counts_known t = record {
  each_leg = refl;
  few = λ l below.
      omega (arith, count_of t l (omega (arith, below, legs_counted t)), count_below-le (λ f. is_some (cost_in t.costs l f)) (length t.fleets), t.in_range.fleets_fit.few);
}

pub none_counted : (legs : ℕ) → AreWindowsCounted [] legs (replicate legs 0)
none_counted legs = record {
  each_leg = length-replicate legs 0;
  value = λ l below. zero_at legs l;
  few = λ l below. omega (arith, zero_at legs l);
}

pub first_triples : (t : Tables) → triples_by (fleet_counts t) [] ≤ MAX_TRIPLES
unfolding triples_by
first_triples t =
    let most : ℕ → ℕ = λ l. fleets_on t l * times_of t.legs l in
    let each : (l : ℕ) → l < legs_in t → triples_of (fleet_counts t) [] l ≤ most l = λ l below.
    omega (arith, count_of t l below, mul-le (fleets_on t l) 1 (fleets_on t l) (times_of t.legs l) (omega arith) (some_times t l)) in
    subst (λ n. sum_below (triples_of (fleet_counts t) []) n ≤ MAX_TRIPLES) (sym (legs_counted t)) (omega (arith, sum_below-le (triples_of (fleet_counts t) []) most (legs_in t) (record { each = each }), t.in_range.few_triples))
