use Rattle.std.proofs.Common.{◌∙◌, ap}
use Rattle.lp_rows.specs.Layout.{concat_below, nodes_of_fleet, starts_in}
use Rattle.lp_rows.proofs.ListsBehind.{ends_at, one_list_next}
use Rattle.lp_rows.proofs.layout.network_nodes.Goals as goal

pub loop-fleet-preserved : goal.loop-fleet-preserved
loop-fleet-preserved c = one_list_next (nodes_of_fleet c.args.tables.now (starts_in c.args.network.now)) c.loop-fleet.fleet c.loop-fleet.nodes.items _ c.loop-fleet.invariant c.in_ok-push_fleet.ensures

pub returns : goal.returns
returns c =
    c.loop-fleet.invariant
    ∙ ap (concat_below (nodes_of_fleet c.args.tables.now (starts_in c.args.network.now)))
    (ends_at c.loop-fleet.fleet c.fleet_count-fleet-end.result _ c.loop-fleet.auto.fleet-end c.loop-fleet-test.false c.fleet_count-fleet-end.ensures)
