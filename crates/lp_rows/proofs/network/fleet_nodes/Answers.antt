use Rattle.std.proofs.Common.{[], sym, subst}
use Rattle.fleet_model.specs.Kept.{kept_by}
use Rattle.node_aggregate.specs.Nodes.{AreNodesAt}
use Rattle.lp_rows.specs.Layout.{HaveNodes}
use Rattle.lp_rows.proofs.Built.{one_more_built, stations_built}
use Rattle.lp_rows.proofs.ListsBehind.{ends_at, none_so_far}
use Rattle.lp_rows.proofs.network.fleet_nodes.Goals as goal

pub loop-station-init : goal.loop-station-init
loop-station-init c = none_so_far (AreNodesAt c.args.tables.now (kept_by c.args.kept.now) c.args.fleet) [] c.new-stations.result.items c.new-stations.ensures.items

pub loop-station-preserved : goal.loop-station-preserved
loop-station-preserved c =
    one_more_built (AreNodesAt c.args.tables.now (kept_by c.args.kept.now) c.args.fleet) [] c.loop-station.stations.items c.push.new.self.items c.loop-station.station c.in_ok-station_nodes.field-0
    c.in_ok-push.ensures.items c.loop-station.invariant c.in_ok-station_nodes.ensures

pub returns : goal.returns
returns c =
    subst (HaveNodes c.args.tables.now (kept_by c.args.kept.now) c.args.fleet) (sym c.from_vec.ensures)
    (stations_built c.args.tables.now (kept_by c.args.kept.now) c.args.fleet c.loop-station.station c.loop-station.stations.items
    (ends_at c.loop-station.station c.station_count-station-end.result _ c.loop-station.auto.station-end c.loop-station-test.false c.station_count-station-end.ensures) c.loop-station.invariant)
