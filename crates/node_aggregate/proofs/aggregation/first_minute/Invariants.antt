use Rattle.std.proofs.Common.{◌≡◌}
use Rattle.node_aggregate.proofs.FirstMinutes.{first_of}
use Rattle.node_aggregate.proofs.aggregation.first_minute.Given as goal

abbrev pub invariant-loop-event : goal.invariant-loop-event
invariant-loop-event l = l.first ≡ first_of l.events l.ready l.from l.event-index
