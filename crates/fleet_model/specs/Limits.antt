-- What tables keep: their limits, numbers in range, and names that differ.
use Rattle.std.specs.Prelude.{◌≡◌, ◌≢◌, ℕ, ◌<◌, ◌≤◌, Bool, false, List, length, slice_index_or, All, AllPairs, None, ℤ, pos, neg_ℤ, ◌*ℤ◌, ◌<ℤ◌, ◌≤ℤ◌}
use Rattle.std.specs.Option.{ForSome}
use Rattle.entries.specs.Names.{IsName, IsStationCode}
use Rattle.fleet_model.specs.Period.{minutes_of}
use Rattle.fleet_model.specs.Windows.{departures_of_legs, moved, no_leg, own_shift, own_slot, times_of, triples_in}
use Rattle.fleet_model.specs.declared.parts.Station.{Station}
use Rattle.fleet_model.specs.declared.parts.Fleet.{Fleet}
use Rattle.fleet_model.specs.declared.parts.Departure.{Departure}
use Rattle.fleet_model.specs.declared.parts.Leg.{Leg}
use Rattle.fleet_model.specs.declared.parts.PairCost.{PairCost}
use Rattle.fleet_model.specs.declared.parts.Through.{Through}
use Rattle.fleet_model.specs.declared.parts.Settings.{Settings}
use Rattle.fleet_model.specs.declared.shifts.Shift.{Shift}
use Rattle.fleet_model.specs.declared.limits.TheConstants.{MINUTES_PER_DAY, MAX_PERIOD, MAX_STATIONS, MAX_FLEETS, MAX_LEGS, MAX_THROUGHS, MAX_AIRCRAFT, MAX_GROUND_MINUTES, MAX_LEAST_NIGHT, MAX_PARKING, MAX_COST, MAX_SHIFT, MAX_SHIFTS, MAX_TRIPLES}

pub record IsStation (station : Station) : Type 0 where
  pub code : IsStationCode station.code
  pub extra : station.extra ≤ MAX_GROUND_MINUTES
  pub parking : ForSome station.parking (λ limit. limit ≤ MAX_PARKING)

pub record IsFleet (fleet : Fleet) : Type 0 where
  pub name : IsName fleet.name
  pub aircraft : fleet.aircraft ≤ MAX_AIRCRAFT
  pub turn : fleet.turn ≤ MAX_GROUND_MINUTES

-- a cost of at most so many times the greatest that tables name
pub record IsCostUpTo (times : ℕ) (cost : ℤ) : Type 0 where
  pub no_less : neg_ℤ (pos times *ℤ MAX_COST) ≤ℤ cost
  pub no_more : cost ≤ℤ (pos times *ℤ MAX_COST)

-- what a pair may cost: a fleet's cost with what settled times have added to it, and what a time costs beside it
abbrev pub IsCost : ℤ → Type 0
IsCost cost = IsCostUpTo 3 cost

-- a time of a leg whose own is this minute, in a period of so many days
pub record IsShift (days minute : ℕ) (shift : Shift) : Type 0 where
  pub no_earlier : neg_ℤ MAX_SHIFT ≤ℤ shift.minutes
  pub no_later : shift.minutes ≤ℤ MAX_SHIFT
  pub at : shift.dep ≡ moved (minutes_of days) minute shift.minutes
  pub extra : IsCostUpTo 1 shift.extra

-- the times of a leg whose own is this minute: each later than those before it, and the leg's own among them
pub record AreShifts (days minute : ℕ) (shifts : List Shift) : Type 0 where
  pub few : length shifts ≤ MAX_SHIFTS
  pub each : All (IsShift days minute) shifts
  pub rise : AllPairs (λ a b. a.minutes <ℤ b.minutes) shifts
  pub own_there : own_slot shifts < length shifts
  pub own : slice_index_or shifts (own_slot shifts) (own_shift 0) ≡ own_shift minute

-- a leg between two of so many stations, in a period of so many days
pub record IsLeg (stations days : ℕ) (leg : Leg) : Type 0 where
  pub flight : IsName leg.flight
  pub from : leg.from < stations
  pub to : leg.to < stations
  pub dep : leg.dep < minutes_of days
  pub some_block : 0 < leg.block
  pub block : leg.block < MINUTES_PER_DAY
  pub shifts : AreShifts days leg.dep leg.shifts
  pub skip : ForSome leg.skip (λ price. IsCostUpTo 1 price)

-- the cost of one of so many fleets on one of so many legs; settled times may have added to it
pub record IsPairCost (legs fleets : ℕ) (entry : PairCost) : Type 0 where
  pub leg : entry.leg < legs
  pub fleet : entry.fleet < fleets
  pub cost : IsCostUpTo 2 entry.cost

pub record IsThrough (legs : ℕ) (entry : Through) : Type 0 where
  pub arriving : entry.arriving < legs
  pub departing : entry.departing < legs
  pub no_less : pos 0 ≤ℤ entry.value
  pub no_more : entry.value ≤ℤ MAX_COST

pub record AreSettings (settings : Settings) : Type 0 where
  pub day_start : settings.day_start < MINUTES_PER_DAY
  pub through_max : settings.through_max < MINUTES_PER_DAY
  pub least_night : settings.least_night ≤ MAX_LEAST_NIGHT
  pub some_days : 1 ≤ settings.period
  pub few_days : settings.period ≤ MAX_PERIOD

-- two costs are of one pair
pub record SamePair (a b : PairCost) : Type 0 where
  pub leg : a.leg ≡ b.leg
  pub fleet : a.fleet ≡ b.fleet

-- two through pairs are of the same legs
pub record SameThrough (a b : Through) : Type 0 where
  pub arriving : a.arriving ≡ b.arriving
  pub departing : a.departing ≡ b.departing

pub record AreStations (stations : List Station) : Type 0 where
  pub few : length stations ≤ MAX_STATIONS
  pub each : All IsStation stations
  pub differ : AllPairs (λ a b. a.code ≢ b.code) stations

pub record AreFleets (fleets : List Fleet) : Type 0 where
  pub few : length fleets ≤ MAX_FLEETS
  pub each : All IsFleet fleets
  pub differ : AllPairs (λ a b. a.name ≢ b.name) fleets

-- legs between so many stations, in a period of so many days
pub record AreLegs (stations days : ℕ) (legs : List Leg) : Type 0 where
  pub few : length legs ≤ MAX_LEGS
  pub each : All (IsLeg stations days) legs
  pub differ : AllPairs (λ a b. a.flight ≢ b.flight) legs

-- costs of pairs of so many legs and fleets
pub record AreCosts (legs fleets : ℕ) (costs : List PairCost) : Type 0 where
  pub each : All (IsPairCost legs fleets) costs
  pub differ : AllPairs (λ a b. ¬ (SamePair a b)) costs

-- through pairs of so many legs
pub record AreThroughs (legs : ℕ) (throughs : List Through) : Type 0 where
  pub few : length throughs ≤ MAX_THROUGHS
  pub each : All (IsThrough legs) throughs
  pub differ : AllPairs (λ a b. ¬ (SameThrough a b)) throughs

-- each leg has its own time alone
pub record FlyOnce (legs : List Leg) : Type 0 where
  pub each : (l : ℕ) → l < length legs → times_of legs l ≡ 1

-- no leg may be left out
pub record NoneLeftOut (legs : List Leg) : Type 0 where
  pub each : (l : ℕ) → l < length legs → (slice_index_or legs l no_leg).skip ≡ None

pub record AreTables (stations : List Station) (fleets : List Fleet) (legs : List Leg) (costs : List PairCost) (throughs : List Through) (settings : Settings) (departures : List Departure) (windows optional : Bool) : Type 0 where
  pub stations_fit : AreStations stations
  pub fleets_fit : AreFleets fleets
  pub legs_fit : AreLegs (length stations) settings.period legs
  pub costs_fit : AreCosts (length legs) (length fleets) costs
  pub throughs_fit : AreThroughs (length legs) throughs
  pub settings_fit : AreSettings settings
  pub departures_fit : departures ≡ departures_of_legs legs
  pub few_triples : triples_in (length fleets) legs costs ≤ MAX_TRIPLES
  pub moved_where_asked : windows ≡ false → FlyOnce legs
  pub left_out_where_asked : optional ≡ false → NoneLeftOut legs
