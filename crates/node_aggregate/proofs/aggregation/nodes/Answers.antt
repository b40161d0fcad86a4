use Rattle.std.proofs.Common.{◌≢◌, [], rules}
use Rattle.node_aggregate.specs.Nodes.{AreNodes}
use Rattle.node_aggregate.proofs.Links.{link_more, linked_are_nodes, nodes_rise}
use Rattle.node_aggregate.proofs.aggregation.nodes.Goals as goal

pub loop-next-preserved : goal.loop-next-preserved
loop-next-preserved c =
    link_more c.args.events.now c.args.days c.loop-next.starts.items c.push-in-Some.new.self.items c.loop-next.start c.in-Some.next (search rules) c.loop-next.invariant c.in-Some.ensures

are_nodes : (c : goal.In_default) → AreNodes c.args.events.now c.args.days c.loop-next.starts.items
are_nodes c =
    let some : c.args.events.now ≢ [] = search rules in
    linked_are_nodes c.args.events.now c.args.days c.loop-next.starts.items c.loop-next.start some c.loop-next.invariant c.in_default.ensures

pub returns-clause-nodes : goal.returns-clause-nodes
returns-clause-nodes c = are_nodes c

pub returns-clause-rising : goal.returns-clause-rising
returns-clause-rising c = nodes_rise c.args.events.now c.args.days c.loop-next.starts.items (are_nodes c)
