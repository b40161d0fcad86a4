-- Departures and arrivals, counted by weights of pairs. An assignment weighs its own pairs 1 and all others 0;
-- a fractional assignment weighs as it says.
use Rattle.std.specs.Prelude.{ℕ, Bool, ◌==◌, ◌&&◌, nat_le, if◌then◌else◌, List, slice_index}
use Rattle.sums.specs.Below.{sum_below}
use Rattle.fleet_model.specs.declared.parts.Pair.{Pair}
use Rattle.fleet_model.specs.declared.tables.Tables.{Tables}
use Rattle.fleet_model.specs.Schedule.{departures_in, leg_of, leg_on, pair_on}
use Rattle.fleet_model.specs.Times.{departure, ready_minute}

-- a weight for each pair
abbrev pub Weights : Type 0
Weights = Pair → ℕ

-- the choice of a leg by an assignment, which is a list of choices, one a leg
abbrev pub choice_at : List ℕ → ℕ → ℕ
choice_at a l = slice_index a l

-- the pair that an assignment has of a leg
abbrev pub pair_at : List ℕ → ℕ → Pair
pair_at a l = leg_on l (choice_at a l)

abbrev pub weights_of : List ℕ → Weights
weights_of a p = if choice_at a p.leg == p.choice then 1 else 0

-- the leg departs from the station by the end of the minute
abbrev pub has_left : Tables → Pair → ℕ → ℕ → Bool
has_left t p s m = ((leg_of t p.leg).from == s) && nat_le (departure t p) m

-- the leg lands at the station, and its aircraft is ready by the end of the minute
abbrev pub has_come : Tables → Pair → ℕ → ℕ → Bool
has_come t p s m = ((leg_of t p.leg).to == s) && nat_le (ready_minute t p) m

-- what a departure adds to a fleet's departures from a station by the end of a minute
abbrev pub leaving : Tables → Weights → ℕ → ℕ → ℕ → ℕ → ℕ
leaving t w f s m d = if has_left t (pair_on t d f) s m then w (pair_on t d f) else 0

-- what a departure adds to a fleet's aircraft that have become ready at a station by the end of a minute
abbrev pub coming : Tables → Weights → ℕ → ℕ → ℕ → ℕ → ℕ
coming t w f s m d = if has_come t (pair_on t d f) s m then w (pair_on t d f) else 0

-- a fleet's departures from a station by the end of a minute
unfoldable pub departed : Tables → Weights → ℕ → ℕ → ℕ → ℕ
departed t w f s m = sum_below (leaving t w f s m) (departures_in t)

-- a fleet's aircraft that have become ready at a station by the end of a minute
unfoldable pub arrived : Tables → Weights → ℕ → ℕ → ℕ → ℕ
arrived t w f s m = sum_below (coming t w f s m) (departures_in t)
