-- How many choices a leg has at most, and how many departures there are.
use Rattle.std.proofs.Common.{ℕ, zero, suc, ◌+◌, ◌*◌, ◌<◌, ◌≤◌, length, length-append, ap, inl, inr, arith}
use Rattle.std.proofs.lemmas.Bool.{cases_lt}
use Rattle.std.proofs.lemmas.Nat.{mul-le}
use Rattle.sums.proofs.Places.{length-list_below}
use Rattle.sums.proofs.Tests.{at_most_one}
use Rattle.fleet_model.specs.declared.limits.TheConstants.{MAX_CHOICES, MAX_DEPARTURES, MAX_FLEETS, MAX_LEGS, MAX_SHIFTS}
use Rattle.fleet_model.specs.declared.parts.Pair.{Pair}
use Rattle.fleet_model.specs.declared.tables.Tables.{Tables}
use Rattle.fleet_model.specs.Schedule.{IsPair, choices_in, departures_in, fleet_by, fleets_in, leg_on, legs_in, shifts_in}
use Rattle.fleet_model.specs.Windows.{at_time, departures_below, departures_on, times_of}
use Rattle.fleet_model.proofs.Departures.{few_times, in_block, some_times}
use Rattle.fleet_model.proofs.LeftOut.{last_choice}

pub few_choices : (t : Tables) (l : ℕ) → choices_in t l ≤ MAX_CHOICES
unfolding choices_in
few_choices t l = omega (arith, mul-le (fleets_in t) (shifts_in t l) MAX_FLEETS MAX_SHIFTS t.in_range.fleets_fit.few (few_times t l), at_most_one t.optional)

-- the fleet of a pair, and where none flies it as many as there are fleets
pub few_fleets : (t : Tables) (p : Pair) → IsPair t p → fleet_by t p ≤ fleets_in t
few_fleets t p pair = elim (cases_lt (fleets_in t) (fleet_by t p)) [
  | inl many ↦
      let last = last_choice t p.leg p.choice pair.choice (omega arith) in
      absurd (omega (arith, last, in_block t p, mul-le (fleets_in t + 1) (shifts_in t p.leg) (fleet_by t p) (shifts_in t p.leg) (omega (arith, many)) (omega arith), some_times t p.leg))
  | inr few ↦ few
]

-- .. of a pair
pub few_choice : (t : Tables) (l c : ℕ) → IsPair t (leg_on l c) → c < MAX_CHOICES
few_choice t l c pair = omega (arith, pair.choice, few_choices t l)

pub few_departures : (t : Tables) → departures_in t ≤ MAX_DEPARTURES
unfolding departures_in
few_departures t =
    omega (
      arith,
      ap length t.in_range.departures_fit,
      few_below (legs_in t),
      mul-le (legs_in t) MAX_SHIFTS MAX_LEGS MAX_SHIFTS t.in_range.legs_fit.few (omega arith),
    )
  where
    few_below : (n : ℕ) → length (departures_below t.legs n) ≤ n * MAX_SHIFTS
    few_below zero = omega arith
    few_below (suc n) = omega (arith, few_below n, length-append (departures_below t.legs n) (departures_on t.legs n), length-list_below (at_time n) (times_of t.legs n), few_times t n)
