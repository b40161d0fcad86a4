-- The excess in the minutes in which flights depart.
use Rattle.std.specs.Prelude.{ℕ, Bool, not, ◌==◌, ◌&&◌, if◌then◌else◌}
use Rattle.fleet_model.specs.declared.tables.Tables.{Tables}
use Rattle.fleet_model.specs.Schedule.{leg_of}
use Rattle.fleet_model.specs.Times.{departure}
use Rattle.stand_counts.specs.Flights.{Flights, excess_by}

-- a flight of some weight is from the station
abbrev pub flies_from : Tables → Flights → ℕ → ℕ → Bool
flies_from t x s k = ((leg_of t (x.pair k).leg).from == s) && not (x.weight (x.pair k) == 0)

-- the excess in the minute in which a flight departs, where it is from the station
abbrev pub excess_at : Tables → Flights → ℕ → ℕ → ℕ
excess_at t x s k = if flies_from t x s k then excess_by t x s (departure t (x.pair k)) else 0
