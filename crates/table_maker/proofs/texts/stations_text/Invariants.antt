use Rattle.std.proofs.Common.{◌≡◌, ◌+◌}
use Rattle.table_rows.specs.station_table.Stations.{station_header}
use Rattle.table_maker.specs.Records.{made_station_fields, table_text}
use Rattle.table_maker.proofs.texts.stations_text.Given as goal

abbrev pub invariant-loop-spoke : goal.invariant-loop-spoke
invariant-loop-spoke l = l.text.items ≡ table_text station_header made_station_fields (1 + l.spoke)
