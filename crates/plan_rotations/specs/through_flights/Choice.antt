-- A choice of through pairs, and the numbers of legs which show that none is worth more.
use Rattle.std.specs.Prelude.{◌≡◌, ◌≢◌, ℕ, zero, suc, ◌<◌, Bool, if◌then◌else◌, List, [], ◌∷◌, ◌++◌, length, slice_index_or, ℤ, pos, ◌+ℤ◌, ◌≤ℤ◌, ◌<ℤ◌, Some}
use Rattle.sums.specs.Below.{sum_below_ℤ}
use Rattle.fleet_model.specs.declared.parts.Connection.{Connection}
use Rattle.fleet_model.specs.declared.tables.Tables.{Tables}
use Rattle.fleet_model.specs.Counts.{choice_at}
use Rattle.fleet_model.specs.Schedule.{legs_in}
use Rattle.lines_of_flying.specs.ground_turns.Maps.{turn_at}
use Rattle.lines_of_flying.specs.ground_turns.Throughs.{IsThroughSet, IsThroughTurn, through_value, through_worth_at, value_of_set}
use Rattle.lines_of_flying.specs.ground_turns.Turns.{IsClean, IsTurn}
use Rattle.plan_rotations.specs.declared.through_flights.choosing.Throughs.{Throughs}
use Rattle.plan_rotations.specs.through_flights.Worths.{through_pair}

-- a number of a leg
abbrev pub leg_number : List ℤ → ℕ → ℤ
leg_number numbers leg = slice_index_or numbers leg (pos 0)

-- numbers of the legs as arrivals and as departures: at each clean turn of the fleet they sum to at least the pair's
-- value, and to at least 0 where it is no through pair that can be flown; those of other fleets' legs are 0
pub record ReachTurns (t : Tables) (a : List ℕ) (f : ℕ) (u v : List ℤ) : Type 0 where
  pub arrivals : length u ≡ legs_in t
  pub departures : length v ≡ legs_in t
  pub others : (leg : ℕ) → leg < legs_in t → choice_at a leg ≢ f → (leg_number u leg ≡ pos 0) × (leg_number v leg ≡ pos 0)
  pub clean : (pair : Connection) → IsTurn t a f pair → IsClean t a f pair → pos 0 ≤ℤ (leg_number u pair.arriving +ℤ leg_number v pair.departing)
  pub through : (pair : Connection) (value : ℤ) → IsThroughTurn t a f pair → through_value t pair ≡ Some value
      → value ≤ℤ (leg_number u pair.arriving +ℤ leg_number v pair.departing)

-- the pairs come by the leg that arrives, and each is worth something
pub record AreThroughsListed (t : Tables) (pairs : List Connection) : Type 0 where
  pub rising : (j k : ℕ) → j < k → k < length pairs → (turn_at pairs j).arriving < (turn_at pairs k).arriving
  pub above : (k : ℕ) → k < length pairs → pos 0 <ℤ through_worth_at t pairs k

-- all numbers of the legs, summed
abbrev pub sum_of : List ℤ → ℕ → ℤ
sum_of numbers legs = sum_below_ℤ (leg_number numbers) legs

-- pairs, their value and numbers that show that none is worth more
pub record IsChoice (t : Tables) (a : List ℕ) (f : ℕ) (chosen : Throughs) : Type 0 where
  pub through_set : IsThroughSet t a f chosen.pairs
  pub listed : AreThroughsListed t chosen.pairs
  pub value : chosen.value ≡ value_of_set t chosen.pairs
  pub reach : ReachTurns t a f chosen.u chosen.v
  pub sums : (sum_of chosen.u (legs_in t) +ℤ sum_of chosen.v (legs_in t)) ≡ chosen.value

-- no through set is worth more than numbers that reach all turns sum to
abbrev pub NoSetIsWorthMore : Type 0
NoSetIsWorthMore = (t : Tables) (a : List ℕ) (f : ℕ) (u v : List ℤ) (pairs : List Connection) → ReachTurns t a f u v → IsThroughSet t a f pairs
    → value_of_set t pairs ≤ℤ (sum_of u (legs_in t) +ℤ sum_of v (legs_in t))

-- the legs that pass with those that follow them, by the leg that arrives
abbrev pub turns_below : (ℕ → Bool) → (ℕ → ℕ) → ℕ → List Connection
turns_below passes next zero = []
turns_below passes next (suc leg) = turns_below passes next leg ++ (if passes leg then through_pair leg (next leg) ∷ [] else [])
