-- Flights that share aircraft, and how many of them come, leave and stand at a station.
use Rattle.std.specs.Prelude.{ℕ, ◌+◌, ◌-◌, ◌*◌, ◌==◌, if◌then◌else◌, List}
use Rattle.sums.specs.Below.{sum_below, max_below}
use Rattle.fleet_model.specs.declared.parts.Pair.{Pair}
use Rattle.fleet_model.specs.declared.tables.Tables.{Tables}
use Rattle.fleet_model.specs.Counts.{Weights, has_come, has_left, pair_at}
use Rattle.fleet_model.specs.Schedule.{departures_in, fleet_by, legs_in, pair_on, period_of, stations_in}
use Rattle.fleet_model.specs.Times.{laps_of}

-- Flights that share aircraft: how many pairs, which they are, and what each pair weighs.
pub record Flights : Type 0 where
  pub count : ℕ
  pub pair : ℕ → Pair
  pub weight : Weights

-- a fleet's flights by weights: each departure by the fleet
abbrev pub of_fleet : Tables → Weights → ℕ → Flights
of_fleet t w f = record { count = departures_in t; pair = λ d. pair_on t d f; weight = w }

-- a fleet's flights by an assignment: of each leg its pair, which weighs 1 where the fleet flies it
abbrev pub planned : Tables → List ℕ → ℕ → Flights
planned t a f = record { count = legs_in t; pair = pair_at a; weight = λ p. if fleet_by t p == f then 1 else 0 }

-- what a flight adds to the departures from a station by the end of a minute
abbrev pub leaving_by : Tables → Flights → ℕ → ℕ → ℕ → ℕ
leaving_by t x s m k = if has_left t (x.pair k) s m then x.weight (x.pair k) else 0

-- what a flight adds to the aircraft that have become ready at a station by the end of a minute
abbrev pub coming_by : Tables → Flights → ℕ → ℕ → ℕ → ℕ
coming_by t x s m k = if has_come t (x.pair k) s m then x.weight (x.pair k) else 0

-- departures from a station by the end of a minute
unfoldable pub departed_by : Tables → Flights → ℕ → ℕ → ℕ
departed_by t x s m = sum_below (leaving_by t x s m) x.count

-- aircraft that have become ready at a station by the end of a minute
unfoldable pub arrived_by : Tables → Flights → ℕ → ℕ → ℕ
arrived_by t x s m = sum_below (coming_by t x s m) x.count

-- by how much departures from a station pass arrivals by the end of a minute
unfoldable pub excess_by : Tables → Flights → ℕ → ℕ → ℕ
excess_by t x s m = departed_by t x s m - arrived_by t x s m

-- the aircraft that must be at a station at the day start: the greatest excess of any minute
unfoldable pub need_by : Tables → Flights → ℕ → ℕ
need_by t x s = max_below (excess_by t x s) (period_of t)

-- the aircraft on the ground at a station at the end of a minute
unfoldable pub stand_by : Tables → Flights → ℕ → ℕ → ℕ
stand_by t x s m = need_by t x s + arrived_by t x s m - departed_by t x s m

-- what a flight adds to the laps: the period starts between its departure and readiness
abbrev pub laps_at_by : Tables → Flights → ℕ → ℕ
laps_at_by t x k = x.weight (x.pair k) * laps_of t (x.pair k)

unfoldable pub laps_by : Tables → Flights → ℕ
laps_by t x = sum_below (laps_at_by t x) x.count

-- the aircraft that the flights use: those on the ground at the day start, and those aloft or in their turn then
unfoldable pub used_by : Tables → Flights → ℕ
used_by t x = sum_below (need_by t x) (stations_in t) + laps_by t x
