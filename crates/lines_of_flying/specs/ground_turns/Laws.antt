-- The laws of turns and successor maps, as statements.
use Rattle.std.specs.Prelude.{◌≡◌, ◌≢◌, ◌+◌, ◌-◌, ◌*◌, ◌<◌, ◌≤◌, ◌==◌, ◌↔◌, [], Bool, IsTrue, List, ℕ, false, if◌then◌else◌, length, slice_index, suc}
use Rattle.sums.specs.Below.{sum_below}
use Rattle.fleet_model.specs.Period.{day_end, day_of_minute}
use Rattle.fleet_model.specs.declared.parts.Connection.{Connection}
use Rattle.fleet_model.specs.declared.tables.Tables.{Tables}
use Rattle.fleet_model.specs.Counts.{weights_of}
use Rattle.fleet_model.specs.Schedule.{days_in, fleets_in, leg_on, legs_in, period_of, station_of, stations_in}
use Rattle.fleet_model.specs.Use.{IsBalanced, need_of, stand_of, used_of}
use Rattle.fleet_model.specs.Plain.{IsPlain}
use Rattle.fleet_model.specs.Times.{departure}
use Rattle.lines_of_flying.specs.ground_turns.FirstOut.{AreFirstOut}
use Rattle.lines_of_flying.specs.ground_turns.Maps.{AreClean, AreExchanged, Holds, IsFitting, IsHeldByMap, IsNext, IsSuccessorMap, IsTour, arrivals_of, crossings_at, periods_in_turn, periods_of, turn_at, turns_by, turns_round, waiting_at}
use Rattle.lines_of_flying.specs.ground_turns.Nights.{IsKeptFor, is_short, maintained_in, nights_at_maintenance, nights_in, nights_in_turns}
use Rattle.lines_of_flying.specs.ground_turns.Parts.{KeepsPart, NeverTouches}
use Rattle.lines_of_flying.specs.ground_turns.Segments.{EndAt, NoneEnds, is_minute_among, span_of}
use Rattle.lines_of_flying.specs.declared.ground_turns.nights.Night.{Night}
use Rattle.lines_of_flying.specs.ground_turns.Turns.{IsClean, departs_at, minutes_until, nights_waited, ready_at, station_at, touches, wait_of}

-- by how many the turns at a station that cross the period's start pass its need
abbrev pub surplus_at : Tables → List ℕ → ℕ → List Connection → ℕ → ℕ
surplus_at t a f turns s = crossings_at t f turns s - need_of t (weights_of a) f s

-- at each moment the aircraft that wait at a station are so many more than stand there
pub record WaitBeyond (t : Tables) (a : List ℕ) (f : ℕ) (turns : List Connection) (s more : ℕ) : Type 0 where
  pub each : (m : ℕ) → m < period_of t → waiting_at t f turns s m ≡ stand_of t (weights_of a) f s m + more

-- the waiting law: at each moment the aircraft that wait at a station are those that stand there, and one number more
abbrev pub WaitingLaw : Type 0
WaitingLaw = (t : Tables) (a : List ℕ) (f : ℕ) (turns : List Connection) (s : ℕ) → IsSuccessorMap t a f turns
    → WaitBeyond t a f turns s (surplus_at t a f turns s)

-- a map takes as many periods as the fleet uses aircraft, and those numbers more
abbrev pub PeriodsBeyondUse : Type 0
PeriodsBeyondUse = (t : Tables) (a : List ℕ) (f : ℕ) (turns : List Connection) → IsSuccessorMap t a f turns
    → periods_of t a f turns ≡ used_of t (weights_of a) f + sum_below (surplus_at t a f turns) (stations_in t)

-- a map fits exactly where all its turns are clean
abbrev pub FitsWhereClean : Type 0
FitsWhereClean = (t : Tables) (a : List ℕ) (f : ℕ) (turns : List Connection) → IsSuccessorMap t a f turns
    → (IsFitting t a f turns ↔ AreClean t a f turns)

-- in a fitting map the aircraft that wait at a station at a moment number those that stand there
abbrev pub WaitingIsStand : Type 0
WaitingIsStand = (t : Tables) (a : List ℕ) (f : ℕ) (turns : List Connection) (s m : ℕ) → IsFitting t a f turns → s < stations_in t → m < period_of t
    → waiting_at t f turns s m ≡ stand_of t (weights_of a) f s m

-- the nights of the turns at a station
abbrev pub nights_there : Tables → ℕ → List Connection → ℕ → ℕ → ℕ
nights_there t f turns s k = if station_at t (turn_at turns k) == s then nights_waited t f (turn_at turns k) else 0

abbrev pub nights_at : Tables → ℕ → List Connection → ℕ → ℕ
nights_at t f turns s = sum_below (nights_there t f turns s) (length turns)

-- what stands at a station at the ends of the period's days, added up
abbrev pub stand_by_day : Tables → List ℕ → ℕ → ℕ → ℕ → ℕ
stand_by_day t a f s d = stand_of t (weights_of a) f s (day_end (suc d))

abbrev pub stands_by_day : Tables → List ℕ → ℕ → ℕ → ℕ
stands_by_day t a f s = sum_below (stand_by_day t a f s) (days_in t)

-- in a fitting map the nights at a station number the stands at the ends of days
abbrev pub NightsAreStands : Type 0
NightsAreStands = (t : Tables) (a : List ℕ) (f : ℕ) (turns : List Connection) (s : ℕ) → IsFitting t a f turns → s < stations_in t
    → nights_at t f turns s ≡ stands_by_day t a f s

-- where the period is a day, they number the need
abbrev pub NightsAreNeed : Type 0
NightsAreNeed = (t : Tables) (a : List ℕ) (f : ℕ) (turns : List Connection) (s : ℕ) → IsFitting t a f turns → s < stations_in t
    → days_in t ≡ 1 → nights_at t f turns s ≡ need_of t (weights_of a) f s

-- the nights of a turn by days: from the day of the flight that arrives to that of the one that departs, in a later period
-- by as many as start in the turn
abbrev pub TurnByDays : Tables → ℕ → Connection → Type 0
TurnByDays t f turn = nights_in t f turn + day_of_minute (departure t (leg_on turn.arriving f)) ≡ days_in t * periods_in_turn t f turn + day_of_minute (departs_at t f turn)

abbrev pub NightsByDays : Type 0
NightsByDays = (t : Tables) (a : List ℕ) (f : ℕ) (turns : List Connection) (k : ℕ) → IsSuccessorMap t a f turns → k < length turns → TurnByDays t f (turn_at turns k)

-- the nights of a fitting map, so of a tour, are the aircraft that the fleet uses times the days of the period
abbrev pub NightsAreUse : Type 0
NightsAreUse = (t : Tables) (a : List ℕ) (f : ℕ) (turns : List Connection) → IsFitting t a f turns
    → length (nights_in_turns t f turns) ≡ used_of t (weights_of a) f * days_in t

-- what stands at a maintenance station at the ends of the period's days, added up
abbrev pub maintained_at : Tables → List ℕ → ℕ → ℕ → ℕ
maintained_at t a f s = if (station_of t s).maintenance then stands_by_day t a f s else 0

-- the nights of a fitting map at maintenance stations number what stands there at the ends of days
abbrev pub MaintainedAreStands : Type 0
MaintainedAreStands = (t : Tables) (a : List ℕ) (f : ℕ) (turns : List Connection) → IsFitting t a f turns
    → nights_at_maintenance t (nights_in_turns t f turns) ≡ sum_below (maintained_at t a f) (stations_in t)

-- nights for maintenance are at maintenance stations, so they are no more than those there
abbrev pub MaintainedAreThere : Type 0
MaintainedAreThere = (t : Tables) (nights : List Night) → maintained_in t nights ≤ nights_at_maintenance t nights

-- where no least minutes are asked for, no night is short
abbrev pub NoneIsShort : Type 0
NoneIsShort = (t : Tables) (f : ℕ) (turn : Connection) → t.settings.least_night ≡ 0 → is_short t f turn ≡ false

-- so all nights at maintenance stations are for maintenance
abbrev pub AllAreMaintained : Type 0
AllAreMaintained = (t : Tables) (f : ℕ) (turns : List Connection) → t.settings.least_night ≡ 0
    → maintained_in t (nights_in_turns t f turns) ≡ nights_at_maintenance t (nights_in_turns t f turns)

-- two nights in one wait are never short
abbrev pub TwoAreLong : Type 0
TwoAreLong = (t : Tables) (f : ℕ) (turn : Connection) → 2 ≤ nights_waited t f turn → is_short t f turn ≡ false

-- nights that are kept for so many days are no more than so many times those for maintenance
abbrev pub KeptHasNights : Type 0
KeptHasNights = (t : Tables) (nights : List Night) (days : ℕ) → IsKeptFor t nights days → length nights ≤ days * maintained_in t nights

-- two turns of a list at one station that touch one minute
pub record Touch (t : Tables) (f : ℕ) (turns : List Connection) (i j m : ℕ) : Type 0 where
  pub first : i < length turns
  pub second : j < length turns
  pub differ : i ≢ j
  pub together : station_at t (turn_at turns i) ≡ station_at t (turn_at turns j)
  pub minute : m < period_of t
  pub first_touches : IsTrue (touches t f (turn_at turns i) m)
  pub second_touches : IsTrue (touches t f (turn_at turns j) m)

-- where two turns at a station touch one minute, a fitting map with their departures exchanged fits
abbrev pub ExchangedFits : Type 0
ExchangedFits = (t : Tables) (a : List ℕ) (f : ℕ) (old new : List Connection) (i j m : ℕ) → IsFitting t a f old → Touch t f old i j m
    → AreExchanged old new i j → IsFitting t a f new

-- two of the turns that are none of the given pairs, with their departures exchanged, leave the pairs as they were
abbrev pub ExchangedHolds : Type 0
ExchangedHolds = (given old new : List Connection) (i j : ℕ) → Holds old given → AreExchanged old new i j
    → arrivals_of given (turn_at old i).arriving ≡ 0 → arrivals_of given (turn_at old j).arriving ≡ 0 → Holds new given

-- where some fitting map holds given pairs, a map that holds them fits if aircraft depart first in, first out beside them
abbrev pub FirstOutFits : Type 0
FirstOutFits = (t : Tables) (a : List ℕ) (f : ℕ) (given turns : List Connection) → IsHeldByMap t a f given → IsSuccessorMap t a f turns → Holds turns given
    → AreFirstOut t a f given turns → IsFitting t a f turns

-- two turns at a station that are none of the given pairs; where both aircraft become ready in one minute, the first has
-- the lower leg
pub record FreeTogether (t : Tables) (f : ℕ) (given turns : List Connection) (j k : ℕ) : Type 0 where
  pub first : j < length turns
  pub second : k < length turns
  pub first_free : arrivals_of given (turn_at turns j).arriving ≡ 0
  pub second_free : arrivals_of given (turn_at turns k).arriving ≡ 0
  pub together : station_at t (turn_at turns j) ≡ station_at t (turn_at turns k)
  pub lower : ready_at t f (turn_at turns j) ≡ ready_at t f (turn_at turns k) → (turn_at turns j).arriving < (turn_at turns k).arriving

-- where aircraft depart first in, first out, one that becomes ready some minutes after another one departs no sooner,
-- counted from when the other one is ready
abbrev pub ReadyFirstDepartsFirst : Type 0
ReadyFirstDepartsFirst = (t : Tables) (a : List ℕ) (f : ℕ) (given turns : List Connection) (j k : ℕ) → IsSuccessorMap t a f turns → Holds turns given
    → AreFirstOut t a f given turns → FreeTogether t f given turns j k
    → wait_of t f (turn_at turns j) ≤ minutes_until t (ready_at t f (turn_at turns j)) (ready_at t f (turn_at turns k)) + wait_of t f (turn_at turns k)

-- where beside given pairs no turn of a part touches one outside, each fitting map that holds the pairs keeps the part
abbrev pub ApartForAll : Type 0
ApartForAll = (t : Tables) (a : List ℕ) (f : ℕ) (given turns other : List Connection) (inside : ℕ → Bool) → IsFitting t a f turns → Holds turns given
    → KeepsPart turns inside → NeverTouches t f given turns inside → IsFitting t a f other → Holds other given → KeepsPart other inside

-- a tour that keeps a part has all its legs in the part, or none
abbrev pub TourIsWhole : Type 0
TourIsWhole = (t : Tables) (a : List ℕ) (f : ℕ) (legs : List ℕ) (inside : ℕ → Bool) → IsTour t a f legs → KeepsPart (turns_round legs) inside
    → (j k : ℕ) → j < length legs → k < length legs → inside (slice_index legs j) ≡ inside (slice_index legs k)

-- where as many aircraft of a fleet come to each station as leave it, some map fits on plain tables
abbrev pub SomeFits : Type 0
SomeFits = (t : Tables) (a : List ℕ) (f : ℕ) → IsPlain t → IsBalanced t (weights_of a) → f < fleets_in t → IsHeldByMap t a f []

-- the list has those minutes at whose end none of the fleet's aircraft stands at the station
pub record AreBareMinutes (t : Tables) (a : List ℕ) (f s : ℕ) (minutes : List ℕ) : Type 0 where
  pub each : (m : ℕ) → m < period_of t → is_minute_among minutes m ≡ (stand_of t (weights_of a) f s m == 0)

-- segments that end with these minutes tell whether a turn at the station is clean
abbrev pub SegmentsTellClean : Type 0
SegmentsTellClean = (t : Tables) (a : List ℕ) (f : ℕ) (turn : Connection) (minutes numbers : List ℕ) → AreBareMinutes t a f (station_at t turn) minutes
    → span_of numbers ≡ period_of t → EndAt minutes numbers → (NoneEnds numbers (ready_at t f turn) (departs_at t f turn) ↔ IsClean t a f turn)

-- where the next of each leg makes a turn with it and no two have the same, these turns are a successor map on plain tables
abbrev pub NextIsMap : Type 0
NextIsMap = (t : Tables) (a : List ℕ) (f : ℕ) (next : ℕ → ℕ) → IsPlain t → IsNext t a f next → IsSuccessorMap t a f (turns_by a f next (legs_in t))
