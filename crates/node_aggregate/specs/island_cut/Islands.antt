-- Islands: where all aircraft are needed even if each leg is flown as fast as it can be, a station is empty at some
-- minutes in each legal assignment.
use Rattle.std.specs.Prelude.{ℕ, zero, suc, ◌==◌, ◌&&◌, not, nat_lt, Bool, if◌then◌else◌, unwrap_or, Some, None, List, [], ◌++◌, map, filter}
use Rattle.sums.specs.Below.{count_below}
use Rattle.sums.specs.Places.{first_below, list_below}
use Rattle.fleet_model.specs.declared.tables.Tables.{Tables}
use Rattle.fleet_model.specs.Kept.{all_pairs}
use Rattle.fleet_model.specs.OwnTimes.{own_pair}
use Rattle.fleet_model.specs.Schedule.{fleets_in, last_of, legs_in, period_of, stations_in}
use Rattle.fleet_model.specs.Times.{busy_minutes}
use Rattle.stand_counts.specs.Flights.{Flights, arrived_by, departed_by, stand_by, used_by}
use Rattle.node_aggregate.specs.declared.island_cut.idle_minutes.Idle.{Idle}
use Rattle.node_aggregate.specs.island_cut.PlainDay.{is_plain_day}
use Rattle.node_aggregate.specs.island_cut.Spare.{aircraft_in, joined_flights}

-- the first number below a bound that passes, and 0 where none does
abbrev pub first_passing : (ℕ → Bool) → ℕ → ℕ
first_passing p n = unwrap_or (first_below (λ k. if p k then Some k else None) n) 0

-- a fleet may fly the leg, and is quicker with it than another
abbrev pub is_quicker : Tables → ℕ → ℕ → ℕ → Bool
is_quicker t l f g = all_pairs t (own_pair t l g) && nat_lt (busy_minutes t (own_pair t l g)) (busy_minutes t (own_pair t l f))

-- a fleet may fly the leg, and none that may is quicker
abbrev pub is_quickest : Tables → ℕ → ℕ → Bool
is_quickest t l f = all_pairs t (own_pair t l f) && (count_below (is_quicker t l f) (fleets_in t) == 0)

-- the first such fleet
unfoldable pub quickest_of : Tables → ℕ → ℕ
quickest_of t l = first_passing (is_quickest t l) (fleets_in t)

-- the joined_flights schedule: each leg as its quickest fleet flies it, and all legs by the same aircraft
abbrev pub joined_legs : Tables → Flights
joined_legs t = joined_flights t (quickest_of t)

-- how many fleets may fly the leg
abbrev pub flyers_of : Tables → ℕ → ℕ
flyers_of t l = count_below (λ f. all_pairs t (own_pair t l f)) (fleets_in t)

-- some fleet may fly each leg
abbrev pub have_pairs : Tables → Bool
have_pairs t = count_below (λ l. flyers_of t l == 0) (legs_in t) == 0

-- not as many of these flights come to the station as leave it
abbrev pub is_uneven : Tables → Flights → ℕ → Bool
is_uneven t x s = not (arrived_by t x s (last_of t) == departed_by t x s (last_of t))

-- at each station as many come as leave
abbrev pub balance_by : Tables → Flights → Bool
balance_by t x = count_below (is_uneven t x) (stations_in t) == 0

-- the tables are of one plain day, each leg has a pair, and the joined_flights schedule balances and leaves no aircraft over
unfoldable pub has_islands : Tables → Bool
has_islands t = is_plain_day t && (have_pairs t && balance_by t (joined_legs t) && (used_by t (joined_legs t) == aircraft_in t))

-- the station is empty at the end of the minute: no aircraft of the joined_flights schedule stands there
unfoldable pub is_idle : Tables → ℕ → ℕ → Bool
is_idle t s m = has_islands t && (stand_by t (joined_legs t) s m == 0)

-- the idle minutes of a station, rising
abbrev pub idle_minutes : Tables → ℕ → List ℕ
idle_minutes t s = filter (is_idle t s) (list_below (λ m. m) (period_of t))

abbrev pub idle_at : ℕ → ℕ → Idle
idle_at s m = record { station = s; minute = m }

-- those of the first stations, by station
unfoldable pub idles_below : Tables → ℕ → List Idle
idles_below t zero = []
idles_below t (suc s) = idles_below t s ++ map (idle_at s) (idle_minutes t s)

-- those of all stations
abbrev pub idles_of : Tables → List Idle
idles_of t = idles_below t (stations_in t)
