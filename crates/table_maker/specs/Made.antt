-- The tables that are made of a number.
use Rattle.std.specs.Prelude.{◌≡◌, ℕ, ◌+◌, ◌-◌, ◌*◌, ◌/◌, ◌%◌, ◌≤◌, List, length}
use Rattle.table_rows.specs.fleet_tables.Costs.{cost_header}
use Rattle.table_rows.specs.fleet_tables.Fleets.{fleet_header}
use Rattle.sched_read.specs.Legs.{leg_header}
use Rattle.sched_read.specs.Throughs.{through_header}
use Rattle.table_rows.specs.station_table.Stations.{station_header}
use Rattle.table_maker.specs.Records.{cost_fields, fleet_fields, made_leg_fields, made_station_fields, table_text, through_fields}
use Rattle.table_maker.specs.Trips.{spokes_for, trips_drawn}
use Rattle.table_maker.specs.declared.made.MadeTables.{MadeTables}
use Rattle.table_maker.specs.declared.trips.RoundTrip.{RoundTrip}

-- a number and a count of legs of which tables are made
pub record CanBeMade (number legs : ℕ) : Type 0 where
  pub number_fits : number ≤ 2147483647
  pub legs_even : legs % 2 ≡ 0
  pub legs_few : legs ≤ 1000

-- the tables of a list of round trips
unfoldable pub tables_of_trips : List RoundTrip → MadeTables
tables_of_trips trips = record {
  stations = table_text station_header made_station_fields (1 + spokes_for (length trips));
  fleets = table_text fleet_header (fleet_fields (length trips)) 2;
  legs = table_text leg_header (made_leg_fields trips) (2 * length trips);
  costs = table_text cost_header (cost_fields trips) (4 * length trips);
  throughs = table_text through_header (through_fields trips) (length trips - 1);
}

-- the tables of so many legs, by the draws of a number
unfoldable pub made_tables : ℕ → ℕ → MadeTables
made_tables number legs = tables_of_trips (trips_drawn number (legs / 2))
