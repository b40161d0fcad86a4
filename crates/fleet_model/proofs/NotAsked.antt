-- Tables that were read without windows: each leg has its own time alone, and there are few choices.
use Rattle.std.proofs.Common.{◌≡◌, ℕ, zero, suc, ◌+◌, ◌*◌, ◌%◌, ◌<◌, ◌≤◌, false, List, [], ◌∷◌, length, slice_index_or, is_some, refl, sym, subst, arith, mod-eq_of_lt}
use Rattle.std.proofs.lemmas.Int.{ints}
use Rattle.sums.specs.Below.{count_below}
use Rattle.sums.proofs.Sums.{count_below-le, sum_below-bound}
use Rattle.fleet_model.specs.declared.limits.TheConstants.{MAX_FLEETS, MAX_LEGS, MAX_TRIPLES}
use Rattle.fleet_model.specs.declared.parts.Leg.{Leg}
use Rattle.fleet_model.specs.declared.parts.PairCost.{PairCost}
use Rattle.fleet_model.specs.declared.shifts.Shift.{Shift}
use Rattle.fleet_model.specs.declared.tables.Tables.{Tables}
use Rattle.fleet_model.specs.Costs.{cost_in}
use Rattle.fleet_model.specs.Limits.{AreShifts, FlyOnce, IsShift}
use Rattle.fleet_model.specs.Period.{minutes_of}
use Rattle.fleet_model.specs.Plain.{IsPlain}
use Rattle.fleet_model.specs.Windows.{own_shift, times_of, triples_in}

pub plain_where_not_asked : (t : Tables) → t.windows ≡ false → IsPlain t
unfolding IsPlain
plain_where_not_asked t none = (t.in_range.moved_where_asked none).each

-- where each leg has its own time alone, there are no more choices than fleets and legs make
pub once_few : (fleets : ℕ) (legs : List Leg) (costs : List PairCost) → fleets ≤ MAX_FLEETS → length legs ≤ MAX_LEGS → FlyOnce legs → triples_in fleets legs costs ≤ MAX_TRIPLES
once_few fleets legs costs few_fleets few_legs once =
    let flown : ℕ → ℕ = λ l. count_below (λ f. is_some (cost_in costs l f)) fleets in
    let each : (l : ℕ) → l < length legs → flown l * times_of legs l ≤ MAX_FLEETS = λ l below.
    subst (λ n. flown l * n ≤ MAX_FLEETS) (sym (once.each l below)) (omega (arith, count_below-le (λ f. is_some (cost_in costs l f)) fleets)) in
    omega (arith, sum_below-bound (λ l. flown l * times_of legs l) MAX_FLEETS (length legs) (record { each = each }))

-- a leg's own time alone is a list of times
own_is : (days minute : ℕ) → minute < minutes_of days → IsShift days minute (own_shift minute)
own_is days minute within = let same : (minute + 0) % minutes_of days ≡ minute + 0 = mod-eq_of_lt (omega (arith, within)) in record {
  no_earlier = omega (arith, ints);
  no_later = omega (arith, ints);
  at = omega (arith, same);
  extra = record { no_less = omega (arith, ints); no_more = omega (arith, ints) };
}

pub own_alone : (days minute : ℕ) → minute < minutes_of days → AreShifts days minute (own_shift minute ∷ [])
own_alone days minute within = record {
  few = omega arith;
  each = each_is;
  rise = λ i j d order below. absurd (omega (arith, order, below));
  own_there = omega arith;
  own = refl;
}
  where
    each_is : (k : ℕ) (d : Shift) → k < 1 → IsShift days minute (slice_index_or (own_shift minute ∷ []) k d)
    each_is zero d below = own_is days minute within
    each_is (suc k) d below = absurd (omega arith)
