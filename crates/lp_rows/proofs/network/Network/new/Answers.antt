use Rattle.std.proofs.Common.{◌≡◌, [], arith}
use Rattle.fleet_model.specs.Kept.{kept_by}
use Rattle.fleet_model.specs.Schedule.{fleets_in}
use Rattle.lp_rows.specs.Layout.{HaveNodes}
use Rattle.lp_rows.proofs.Built.{one_more_built, shape_built}
use Rattle.lp_rows.proofs.ListsBehind.{none_so_far}
use Rattle.lp_rows.proofs.network.Network.new.Goals as goal

pub loop-fleet-init : goal.loop-fleet-init
loop-fleet-init c = none_so_far (HaveNodes c.args.tables.now (kept_by c.args.kept.now)) [] c.new-fleets.result.items c.new-fleets.ensures.items

pub loop-fleet-preserved : goal.loop-fleet-preserved
loop-fleet-preserved c =
    one_more_built (HaveNodes c.args.tables.now (kept_by c.args.kept.now)) [] c.loop-fleet.fleets.items c.push.new.self.items c.loop-fleet.fleet c.in_ok-fleet_nodes.field-0 c.in_ok-push.ensures.items
    c.loop-fleet.invariant c.in_ok-fleet_nodes.ensures

pub returns-clause-shape : goal.returns-clause-shape
returns-clause-shape c =
    let all : c.loop-fleet.fleet ≡ fleets_in c.args.tables.now = omega (arith, c.fleet_count-fleet-end.ensures) in
    rw c.from_vec.ensures (shape_built c.args.tables.now (kept_by c.args.kept.now) c.loop-fleet.fleet c.loop-fleet.fleets.items all c.loop-fleet.invariant)

pub returns-clause-nodes : goal.returns-clause-nodes
returns-clause-nodes c =
    let all : c.loop-fleet.fleet ≡ fleets_in c.args.tables.now = omega (arith, c.fleet_count-fleet-end.ensures) in
    rw c.from_vec.ensures (record { each = λ f s known within. (c.loop-fleet.invariant.each f (omega arith)).each s within })
