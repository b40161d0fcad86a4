use Rattle.std.proofs.Common.{◌∙◌, ap}
use Rattle.lp_rows.specs.Layout.{concat_below, parks_at}
use Rattle.lp_rows.proofs.ListsBehind.{ends_at, one_list_next}
use Rattle.lp_rows.proofs.layout.parks.Goals as goal

pub loop-station-preserved : goal.loop-station-preserved
loop-station-preserved c = one_list_next (parks_at c.args.tables.now) c.loop-station.station c.loop-station.parks.items _ c.loop-station.invariant c.in_ok-push_parks.ensures

pub returns : goal.returns
returns c =
    c.loop-station.invariant
    ∙ ap (concat_below (parks_at c.args.tables.now)) (ends_at c.loop-station.station c.station_count-station-end.result _ c.loop-station.auto.station-end c.loop-station-test.false c.station_count-station-end.ensures)
