-- The times at which legs may depart, and the list of all departures.
use Rattle.std.specs.Prelude.{◌≡◌, ℕ, zero, suc, ◌+◌, ◌-◌, ◌*◌, ◌%◌, List, [], ◌∷◌, ◌++◌, length, slice_index_or, is_some, None, ℤ, pos, negsuc, int_lt}
use Rattle.sums.specs.Below.{count_below, sum_below}
use Rattle.sums.specs.Places.{list_below}
use Rattle.fleet_model.specs.declared.parts.Departure.{Departure}
use Rattle.fleet_model.specs.declared.parts.Leg.{Leg}
use Rattle.fleet_model.specs.declared.parts.PairCost.{PairCost}
use Rattle.fleet_model.specs.declared.shifts.Shift.{Shift}
use Rattle.fleet_model.specs.Costs.{cost_in}

-- a leg's own time, where it departs at this minute
abbrev pub own_shift : ℕ → Shift
own_shift dep = record { minutes = pos 0; dep = dep; extra = pos 0 }

-- what stands where the number is of no leg, or of no departure
abbrev pub no_leg : Leg
no_leg = record { flight = []; from = 0; dep = 0; to = 0; block = 0; shifts = own_shift 0 ∷ []; skip = None }

abbrev pub no_departure : Departure
no_departure = record { leg = 0; slot = 0 }

-- the minute that is so many minutes later, or earlier, where the period goes round
abbrev pub moved : ℕ → ℕ → ℤ → ℕ
moved period minute (pos later) = (minute + later) % period
moved period minute (negsuc earlier) = (minute + period - suc earlier) % period

-- the place of a leg's own time among its times: behind those that are earlier
abbrev pub own_slot : List Shift → ℕ
own_slot shifts = count_below (λ k. int_lt (slice_index_or shifts k (own_shift 0)).minutes (pos 0)) (length shifts)

-- how many times a leg has
abbrev pub times_of : List Leg → ℕ → ℕ
times_of legs l = length (slice_index_or legs l no_leg).shifts

-- a leg at one of its times
abbrev pub at_time : ℕ → ℕ → Departure
at_time l slot = record { leg = l; slot = slot }

-- the departures of a leg, those of the legs before it, and those of all
abbrev pub departures_on : List Leg → ℕ → List Departure
departures_on legs l = list_below (at_time l) (times_of legs l)

abbrev pub departures_below : List Leg → ℕ → List Departure
departures_below legs zero = []
departures_below legs (suc n) = departures_below legs n ++ departures_on legs n

abbrev pub departures_of_legs : List Leg → List Departure
departures_of_legs legs = departures_below legs (length legs)

-- by how many pairs legs may be flown: of each leg the fleets that it has a cost with, each at each of its times
abbrev pub triples_in : ℕ → List Leg → List PairCost → ℕ
triples_in fleets legs costs = sum_below (λ l. count_below (λ f. is_some (cost_in costs l f)) fleets * times_of legs l) (length legs)
