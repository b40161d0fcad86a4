use Rattle.std.proofs.Common.{◌-◌, ◌^◌}
use Rattle.node_aggregate.proofs.Links.{AreLinked}
use Rattle.node_aggregate.proofs.aggregation.nodes.Given as goal

abbrev pub invariant-loop-next : goal.invariant-loop-next
invariant-loop-next l = AreLinked l.events l.days l.starts.items l.start

abbrev pub decreases-loop-next : goal.decreases-loop-next
decreases-loop-next l = 2 ^ 16 - l.start
