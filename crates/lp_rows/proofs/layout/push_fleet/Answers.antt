use Rattle.lp_rows.specs.Layout.{nodes_at, starts_in}
use Rattle.lp_rows.proofs.ListsBehind.{all_lists_behind, ends_at, one_list_behind}
use Rattle.lp_rows.proofs.layout.push_fleet.Goals as goal

pub loop-station-preserved : goal.loop-station-preserved
loop-station-preserved c =
    one_list_behind (nodes_at (starts_in c.args.network.now) c.args.fleet) c.loop-station.station c.args.nodes.now.items c.loop-station.nodes.items c.push_station.new.nodes.items c.loop-station.invariant
    c.in_ok-push_station.ensures

pub push_station-requires-clause-shape : goal.push_station-requires-clause-shape
push_station-requires-clause-shape c = c.requires.shape

pub returns : goal.returns
returns c =
    all_lists_behind (nodes_at (starts_in c.args.network.now) c.args.fleet) c.loop-station.station _ c.args.nodes.now.items c.loop-station.nodes.items
    (ends_at c.loop-station.station c.station_count-station-end.result _ c.loop-station.auto.station-end c.loop-station-test.false c.station_count-station-end.ensures) c.loop-station.invariant
