-- The parts of tables by their numbers, the period, and the words in which a leg's choices and departures are told.
use Rattle.std.specs.Prelude.{ℕ, ◌+◌, ◌-◌, ◌*◌, ◌/◌, ◌%◌, ◌<◌, List, [], length, map, slice_index_or, false, if◌then◌else◌, Option, None, unwrap_or}
use Rattle.fleet_model.specs.Period.{minutes_of}
use Rattle.fleet_model.specs.declared.parts.Station.{Station}
use Rattle.fleet_model.specs.declared.parts.Fleet.{Fleet}
use Rattle.fleet_model.specs.declared.parts.Leg.{Leg}
use Rattle.fleet_model.specs.declared.parts.Pair.{Pair}
use Rattle.fleet_model.specs.declared.shifts.Shift.{Shift}
use Rattle.fleet_model.specs.declared.tables.Tables.{Tables}
pub use Rattle.fleet_model.specs.Period.{day_end}
pub use Rattle.fleet_model.specs.Windows.{no_departure, no_leg, own_shift}

-- what stands where the number is of no station, fleet or leg
abbrev pub no_station : Station
no_station = record { code = []; extra = 0; maintenance = false; parking = None }

abbrev pub no_fleet : Fleet
no_fleet = record { name = []; aircraft = 0; turn = 0 }

abbrev pub station_of : Tables → ℕ → Station
station_of t s = slice_index_or t.stations s no_station

abbrev pub fleet_of : Tables → ℕ → Fleet
fleet_of t f = slice_index_or t.fleets f no_fleet

abbrev pub leg_of : Tables → ℕ → Leg
leg_of t l = slice_index_or t.legs l no_leg

-- how many there are
abbrev pub stations_in : Tables → ℕ
stations_in t = length t.stations

abbrev pub fleets_in : Tables → ℕ
fleets_in t = length t.fleets

abbrev pub legs_in : Tables → ℕ
legs_in t = length t.legs

-- the names of the fleets, by their numbers
abbrev pub fleet_names : Tables → List (List ℕ)
fleet_names t = map (λ fleet. fleet.name) t.fleets

-- ---- the period
-- how many days the period has
unfoldable pub days_in : Tables → ℕ
days_in t = t.settings.period

-- the minutes of the period, and its last one
unfoldable pub period_of : Tables → ℕ
period_of t = minutes_of t.settings.period

abbrev pub last_of : Tables → ℕ
last_of t = period_of t - 1

-- how many aircraft may stand at a station at the end of a day, where there is a limit
unfoldable pub parking_of : Tables → ℕ → Option ℕ
parking_of t s = (station_of t s).parking

-- that limit, and 0 where there is none
abbrev pub parking_limit : Tables → ℕ → ℕ
parking_limit t s = unwrap_or (parking_of t s) 0

-- ---- choices: what an assignment chooses of for each leg
-- how many times a leg has
abbrev pub shifts_in : Tables → ℕ → ℕ
shifts_in t l = length (leg_of t l).shifts

-- how many choices a leg has: each fleet at each of its times, and last, where legs may be left out, to be left out
unfoldable pub choices_in : Tables → ℕ → ℕ
choices_in t l = fleets_in t * shifts_in t l + (if t.optional then 1 else 0)

-- the choice by which a leg is left out
abbrev pub left_out : Tables → ℕ → ℕ
left_out t l = fleets_in t * shifts_in t l

-- the pair of a leg and one of its choices
abbrev pub leg_on : ℕ → ℕ → Pair
leg_on l c = record { leg = l; choice = c }

-- the fleet that a pair is flown by, and none of the tables where it leaves the leg out
unfoldable pub fleet_by : Tables → Pair → ℕ
fleet_by t p = p.choice / shifts_in t p.leg

-- the place of the time at which a pair is flown among those of its leg
unfoldable pub slot_by : Tables → Pair → ℕ
slot_by t p = p.choice % shifts_in t p.leg

-- the time at which a pair is flown
abbrev pub shift_by : Tables → Pair → Shift
shift_by t p = slice_index_or (leg_of t p.leg).shifts (slot_by t p) (own_shift 0)

-- a leg of the tables with one of its choices
pub record IsPair (t : Tables) (p : Pair) : Type 0 where
  pub leg : p.leg < legs_in t
  pub choice : p.choice < choices_in t p.leg

-- .. by which a fleet flies the leg
pub record IsFlown (t : Tables) (p : Pair) : Type 0 where
  pub pair : IsPair t p
  pub by : fleet_by t p < fleets_in t

-- ---- departures: the minutes at which legs may depart, in one list
-- how many departures there are
unfoldable pub departures_in : Tables → ℕ
departures_in t = length t.departures

-- the leg of a departure
unfoldable pub leg_at : Tables → ℕ → ℕ
leg_at t d = (slice_index_or t.departures d no_departure).leg

-- the choice of its leg by which a fleet flies a departure
unfoldable pub choice_on : Tables → ℕ → ℕ → ℕ
choice_on t d f = f * shifts_in t (leg_at t d) + (slice_index_or t.departures d no_departure).slot

-- the pair by which a fleet flies a departure
abbrev pub pair_on : Tables → ℕ → ℕ → Pair
pair_on t d f = leg_on (leg_at t d) (choice_on t d f)
