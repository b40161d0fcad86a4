-- The nights of a tour, and whether they bring its aircraft to maintenance often enough.
use Rattle.std.specs.Prelude.{ℕ, ◌+◌, ◌%◌, ◌<◌, Bool, IsTrue, false, if◌then◌else◌, nat_lt, List, [], ◌∷◌, ◌++◌, length, replicate, slice_index_or, count_by}
use Rattle.fleet_model.specs.declared.parts.Connection.{Connection}
use Rattle.fleet_model.specs.declared.tables.Tables.{Tables}
use Rattle.fleet_model.specs.Schedule.{fleet_of, leg_on, station_of}
use Rattle.fleet_model.specs.Times.{nights_of}
use Rattle.lines_of_flying.specs.ground_turns.Maps.{turns_round}
use Rattle.lines_of_flying.specs.ground_turns.Turns.{nights_waited, station_at, wait_of}
use Rattle.lines_of_flying.specs.declared.ground_turns.nights.Night.{Night}
use Rattle.lines_of_flying.specs.declared.ground_turns.nights.Night.TheVariants as night

-- the minutes of a turn on the ground, from arrival to departure: the turn of the fleet, the extra of the station and the wait
abbrev pub stay_of : Tables → ℕ → Connection → ℕ
stay_of t f turn = (fleet_of t f).turn + (station_of t (station_at t turn)).extra + wait_of t f turn

-- they are fewer than a night for maintenance is asked to have
abbrev pub is_short : Tables → ℕ → Connection → Bool
is_short t f turn = nat_lt (stay_of t f turn) t.settings.least_night

-- what each night of the wait is: all of them are short, or none is
abbrev pub night_of_stay : Tables → ℕ → Connection → Night
night_of_stay t f turn = if is_short t f turn then night.Short (station_at t turn) else night.At (station_at t turn)

-- the nights of a turn: those of the leg that arrives, and then those of its wait
abbrev pub nights_in_turn : Tables → ℕ → Connection → List Night
nights_in_turn t f turn = replicate (nights_of t (leg_on turn.arriving f)) night.Aloft ++ replicate (nights_waited t f turn) (night_of_stay t f turn)

-- how many they are
abbrev pub nights_in : Tables → ℕ → Connection → ℕ
nights_in t f turn = nights_of t (leg_on turn.arriving f) + nights_waited t f turn

abbrev pub nights_in_turns : Tables → ℕ → List Connection → List Night
nights_in_turns t f [] = []
nights_in_turns t f (turn ∷ turns) = nights_in_turn t f turn ++ nights_in_turns t f turns

-- the nights of a tour, going round from its first leg
abbrev pub nights_of_tour : Tables → ℕ → List ℕ → List Night
nights_of_tour t f legs = nights_in_turns t f (turns_round legs)

-- an aircraft can be maintained in the night
abbrev pub can_maintain : Tables → Night → Bool
can_maintain t night.Aloft = false
can_maintain t (night.At station) = (station_of t station).maintenance
can_maintain t (night.Short station) = false

-- how many of the nights are for maintenance
abbrev pub maintained_in : Tables → List Night → ℕ
maintained_in t nights = count_by (can_maintain t) nights

-- the night is at a maintenance station, however short
abbrev pub at_maintenance : Tables → Night → Bool
at_maintenance t night.Aloft = false
at_maintenance t (night.At station) = (station_of t station).maintenance
at_maintenance t (night.Short station) = (station_of t station).maintenance

-- how many of the nights are at maintenance stations
abbrev pub nights_at_maintenance : Tables → List Night → ℕ
nights_at_maintenance t nights = count_by (at_maintenance t) nights

-- the night so many nights after the first, going round
abbrev pub night_round : List Night → ℕ → Night
night_round nights k = slice_index_or nights (k % length nights) night.Aloft

-- of so many nights one after another, going round, one is for maintenance
pub record IsMaintainedFrom (t : Tables) (nights : List Night) (days first : ℕ) : Type 0 where
  pub after : ℕ
  pub within : after < days
  pub maintained : IsTrue (can_maintain t (night_round nights (first + after)))

-- there are nights, and of any so many one after another one is for maintenance
pub record IsKeptFor (t : Tables) (nights : List Night) (days : ℕ) : Type 0 where
  pub some : 0 < length nights
  pub each : (first : ℕ) → first < length nights → IsMaintainedFrom t nights days first
