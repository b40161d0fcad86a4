use Rattle.std.proofs.Common.{rules}
use Rattle.table_rows.specs.station_table.Stations.{station_header}
use Rattle.table_maker.specs.Records.{made_station_fields}
use Rattle.table_maker.proofs.Lines.{text_begun, text_grown}
use Rattle.table_maker.proofs.TripLists.{spoke_grown}
use Rattle.table_maker.proofs.texts.stations_text.Goals as goal

pub loop-spoke-init : goal.loop-spoke-init
loop-spoke-init c = text_grown station_header made_station_fields 0 _ _ (text_begun station_header made_station_fields _ (search rules)) c.in_ok-push_station.ensures

pub loop-spoke-preserved : goal.loop-spoke-preserved
loop-spoke-preserved c = spoke_grown c.loop-spoke.spoke _ _ c.spoke_code.result c.loop-spoke.invariant c.spoke_code.ensures c.in_ok-push_station-2.ensures
