use Rattle.std.specs.Prelude.{true}
use Rattle.fleet_model.specs.declared.refusals.TableFile.TheVariants as file
use Rattle.table_rows.specs.station_table.Stations.{code_of, station_headers, station_read}
use Rattle.table_rows.proofs.FormReading.{formless_refused}
use Rattle.table_rows.proofs.station_table.read_stations.Goals as goal

pub returns-clause-reads : goal.returns-clause-reads
returns-clause-reads c =
    formless_refused code_of station_read station_headers true file.Stations _ _
    (rw (← c.in_ok-records.ensures, ← c.deref.ensures.value) c.in-None.ensures) c.without_header.ensures
