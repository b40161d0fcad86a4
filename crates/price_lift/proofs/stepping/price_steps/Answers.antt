use Rattle.std.proofs.Common.{◌≡◌, ◌<◌, arith, ap, subst, length, add-one, get_or, pos}
use Rattle.lp_rows.specs.Layout.{all_nodes, concat_below, starts_in}
use Rattle.lp_rows.specs.Points.{node_count}
use Rattle.lp_rows.proofs.Counted.{nodes_are}
use Rattle.price_lift.specs.Steps.{steps_at}
use Rattle.lp_rows.proofs.LinePlaces.{node_is}
use Rattle.price_lift.proofs.stepping.price_steps.Goals as goal

pub starts-starts-requires-clause-fleet : goal.starts-starts-requires-clause-fleet
starts-starts-requires-clause-fleet c =
    let below : c.loop-place.place < node_count c.args.tables.now (starts_in c.args.network.now) = omega (arith, nodes_are c.args.tables.now (starts_in c.args.network.now), ap length c.requires.nodes) in
    rw c.requires.nodes (node_is c.args.tables.now (starts_in c.args.network.now) c.loop-place.place below).fleet

pub starts-starts-requires-clause-station : goal.starts-starts-requires-clause-station
starts-starts-requires-clause-station c =
    let below : c.loop-place.place < node_count c.args.tables.now (starts_in c.args.network.now) = omega (arith, nodes_are c.args.tables.now (starts_in c.args.network.now), ap length c.requires.nodes) in
    rw c.requires.nodes (node_is c.args.tables.now (starts_in c.args.network.now) c.loop-place.place below).station

pub push_step-requires-clause-node : goal.push_step-requires-clause-node
push_step-requires-clause-node c =
    let below : c.loop-place.place < node_count c.args.tables.now (starts_in c.args.network.now) = omega (arith, nodes_are c.args.tables.now (starts_in c.args.network.now), ap length c.requires.nodes) in
    rw (c.starts-starts.ensures.value, c.requires.nodes) (node_is c.args.tables.now (starts_in c.args.network.now) c.loop-place.place below).place

pub loop-place-preserved : goal.loop-place-preserved
loop-place-preserved c = rw add-one (rw (c.starts-starts.ensures.value, c.requires.nodes, c.loop-place.invariant) at c.in_ok-push_step.ensures)

pub returns : goal.returns
returns c =
    let all : c.loop-place.place ≡ length (all_nodes c.args.tables.now (starts_in c.args.network.now)) = omega (arith, ap length c.requires.nodes) in
    subst (λ n. c.loop-place.steps.items ≡ concat_below (steps_at c.args.tables.now (starts_in c.args.network.now) (λ k. get_or c.args.values.now k (pos 0))) n) all c.loop-place.invariant
