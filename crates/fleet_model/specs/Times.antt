-- When aircraft depart, and when they are ready again.
use Rattle.std.specs.Prelude.{ℕ, ◌+◌, ◌-◌, ◌/◌, ◌%◌}
use Rattle.fleet_model.specs.declared.parts.Pair.{Pair}
use Rattle.fleet_model.specs.declared.tables.Tables.{Tables}
use Rattle.fleet_model.specs.Period.{day_of_minute}
use Rattle.fleet_model.specs.Schedule.{fleet_by, fleet_of, leg_of, period_of, shift_by, station_of}

-- the minute of departure, counted from the start of the period
unfoldable pub departure : Tables → Pair → ℕ
departure t p = (shift_by t p).dep

-- minutes from departure until the aircraft can depart again: the flight, the fleet's turn and the station's extra
abbrev pub busy_minutes : Tables → Pair → ℕ
busy_minutes t p = (leg_of t p.leg).block + (fleet_of t (fleet_by t p)).turn + (station_of t (leg_of t p.leg).to).extra

-- the minute at which the aircraft can depart again
abbrev pub ready_minute : Tables → Pair → ℕ
ready_minute t p = (departure t p + busy_minutes t p) % period_of t

-- how many day starts lie between departure and readiness
abbrev pub nights_of : Tables → Pair → ℕ
nights_of t p = day_of_minute (departure t p + busy_minutes t p) - day_of_minute (departure t p)

-- how many period starts lie between departure and readiness
abbrev pub laps_of : Tables → Pair → ℕ
laps_of t p = (departure t p + busy_minutes t p) / period_of t
