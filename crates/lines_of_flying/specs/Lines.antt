-- The lines of a tour: the legs of each of its days, cut at day starts.
use Rattle.std.specs.Prelude.{◌+◌, ◌-◌, ◌<◌, ◌==◌, [], ◌∷◌, ◌++◌, List, ℕ, if◌then◌else◌, length, slice_index, suc, zero}
use Rattle.sums.specs.Below.{sum_below}
use Rattle.sums.specs.Places.{list_below}
use Rattle.fleet_model.specs.declared.tables.Tables.{Tables}
use Rattle.fleet_model.specs.Schedule.{leg_on, legs_in}
use Rattle.fleet_model.specs.Times.{departure, nights_of}
use Rattle.fleet_model.specs.Period.{day_of_minute}
use Rattle.lines_of_flying.specs.ground_turns.Maps.{periods_in_turn, turn_after}
use Rattle.lines_of_flying.specs.ground_turns.Turns.{nights_waited}

-- the nights from a leg of a tour to the next: those in its flight, and those in the wait that follows
unfoldable pub nights_after : Tables → ℕ → List ℕ → ℕ → ℕ
nights_after t f tour k = nights_of t (leg_on (slice_index tour k) f) + nights_waited t f (turn_after tour k)

-- the period starts from a leg of a tour to the next
unfoldable pub periods_after : Tables → ℕ → List ℕ → ℕ → ℕ
periods_after t f tour k = periods_in_turn t f (turn_after tour k)

-- the day of the period on which the tour's first leg departs
abbrev pub first_day : Tables → ℕ → List ℕ → ℕ
first_day t f tour = day_of_minute (departure t (leg_on (slice_index tour 0) f))

-- the day of a leg, counted from the period's start before the first leg
abbrev pub day_of : Tables → ℕ → List ℕ → ℕ → ℕ
day_of t f tour k = first_day t f tour + sum_below (nights_after t f tour) k

-- the days that the tour takes
abbrev pub days_of_tour : Tables → ℕ → List ℕ → ℕ
days_of_tour t f tour = sum_below (nights_after t f tour) (length tour)

-- of a tour's first legs those of a day
abbrev pub legs_on_day : Tables → ℕ → List ℕ → ℕ → ℕ → List ℕ
legs_on_day t f tour d zero = []
legs_on_day t f tour d (suc k) = legs_on_day t f tour d k ++ (if day_of t f tour k == d then slice_index tour k ∷ [] else [])

-- the legs of each day
abbrev pub lines_of : Tables → ℕ → List ℕ → List (List ℕ)
lines_of t f tour = list_below (λ d. legs_on_day t f tour d (length tour)) (days_of_tour t f tour)

-- a period's start lies before the tour's first leg, since the last one departs
pub record BeginsAfterStart (t : Tables) (f : ℕ) (tour : List ℕ) : Type 0 where
  pub before : 0 < periods_after t f tour (length tour - 1)

-- the legs of a list are legs of the tables
pub record AreLegsOfTables (t : Tables) (legs : List ℕ) : Type 0 where
  pub each : (k : ℕ) → k < length legs → slice_index legs k < legs_in t

-- the lines that so many nights end, of which the first has these legs and the others none; and the line after them
abbrev pub line_after : List ℕ → ℕ → List ℕ
line_after line zero = line
line_after line (suc n) = []

abbrev pub lines_ended : List ℕ → ℕ → List (List ℕ)
lines_ended line zero = []
lines_ended line (suc n) = lines_ended line n ++ line_after line n ∷ []
