-- Where aircraft are as days start, and where the starts of a tour are.
use Rattle.std.specs.Prelude.{◌≡◌, ℕ, ◌+◌, ◌-◌, ◌%◌, ◌<◌, nat_lt, if◌then◌else◌, List, [], ◌∷◌, ◌++◌, length, replicate, slice_index, slice_index_or, Option, Some, None, ⊤}
use Rattle.fleet_model.specs.declared.parts.Connection.{Connection}
use Rattle.fleet_model.specs.declared.tables.Tables.{Tables}
use Rattle.fleet_model.specs.Schedule.{leg_on, legs_in, stations_in}
use Rattle.fleet_model.specs.Times.{nights_of}
use Rattle.lines_of_flying.specs.ground_turns.Maps.{turns_round}
use Rattle.lines_of_flying.specs.ground_turns.Turns.{nights_waited, station_at}
use Rattle.tail_dates.specs.Reaches.{night_ending, start_line}
use Rattle.tail_dates.specs.declared.tails.Place.{Place}
use Rattle.tail_dates.specs.declared.tails.Place.TheVariants as place

-- ---- places by number
-- how many places the tables have
abbrev pub places_in : Tables → ℕ
places_in t = stations_in t + legs_in t

-- the place is one of them
abbrev pub IsPlace : Tables → Place → Type 0
IsPlace t (place.Stands s) = s < stations_in t
IsPlace t (place.Flies l) = l < legs_in t

abbrev pub IsPlaceIfAny : Tables → Option Place → Type 0
IsPlaceIfAny t None = ⊤
IsPlaceIfAny t (Some p) = IsPlace t p

-- Its number: stations come first, in the order of their table, then flights in that of theirs. What the tables lack comes last.
abbrev pub place_number : Tables → Place → ℕ
place_number t (place.Stands s) = if nat_lt s (stations_in t) then s else places_in t
place_number t (place.Flies l) = if nat_lt l (legs_in t) then stations_in t + l else places_in t

-- the place with a number
abbrev pub place_numbered : Tables → ℕ → Place
place_numbered t n = if nat_lt n (stations_in t) then place.Stands n else place.Flies (n - stations_in t)

-- of tails, where each of them is told or not: the numbers of the places that are told, in their order
abbrev pub told_numbers : Tables → List (Option Place) → List ℕ
told_numbers t [] = []
told_numbers t (None ∷ ats) = told_numbers t ats
told_numbers t (Some p ∷ ats) = place_number t p ∷ told_numbers t ats

-- ---- places of a tour
-- where the aircraft of a turn is at each day start: in the flight that arrives or in its turn, and then at the station
abbrev pub places_in_turn : Tables → ℕ → Connection → List Place
places_in_turn t f turn = replicate (nights_of t (leg_on turn.arriving f)) (place.Flies turn.arriving) ++ replicate (nights_waited t f turn) (place.Stands (station_at t turn))

abbrev pub places_in_turns : Tables → ℕ → List Connection → List Place
places_in_turns t f [] = []
places_in_turns t f (turn ∷ turns) = places_in_turn t f turn ++ places_in_turns t f turns

-- the places of a tour, night by night, going round from its first leg
abbrev pub places_of_tour : Tables → ℕ → List ℕ → List Place
places_of_tour t f legs = places_in_turns t f (turns_round legs)

abbrev pub no_place : Place
no_place = place.Stands 0

-- that of a night, going round
abbrev pub place_round : List Place → ℕ → Place
place_round places k = slice_index_or places (k % length places) no_place

-- Where an aircraft is that begins with a line of the tour: its place in the night before. That is the one before the night
-- which ends the line, and a round later too, since no night stands before the first.
abbrev pub place_of_line : Tables → ℕ → List ℕ → ℕ → Place
place_of_line t f tour line = place_round (places_of_tour t f tour) (night_ending t f tour line + length (places_of_tour t f tour) - 1)

-- the numbers of the places of a tour's first starts on a day of the period
pub record AreStartPlaces (t : Tables) (f : ℕ) (tour : List ℕ) (day starts : ℕ) (places : List ℕ) : Type 0 where
  pub each_start : length places ≡ starts
  pub each : (i : ℕ) → i < starts → slice_index places i ≡ place_number t (place_of_line t f tour (start_line t day i))
  pub known : (i : ℕ) → i < starts → slice_index places i < places_in t
