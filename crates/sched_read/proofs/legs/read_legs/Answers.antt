use Rattle.std.specs.Prelude.{◌==◌, map}
use Rattle.table_rows.specs.fleet_tables.Costs.{flight_of}
use Rattle.fleet_model.specs.declared.refusals.TableFile.TheVariants as file
use Rattle.sched_read.specs.Legs.{leg_headers, leg_read}
use Rattle.table_rows.specs.station_table.Stations.{code_of}
use Rattle.table_rows.proofs.FormReading.{formless_refused}
use Rattle.sched_read.proofs.legs.read_legs.Goals as goal

pub returns-clause-reads : goal.returns-clause-reads
returns-clause-reads c =
    formless_refused flight_of (leg_read (map code_of c.args.stations.now) c.args.settings) leg_headers (c.args.settings.period == 1) file.Legs _ _
    (rw (← c.in_ok-records.ensures, ← c.deref.ensures.value) c.in-None.ensures) c.without_header.ensures
