use Rattle.node_aggregate.specs.EventMinutes.{IsLastAmong}
use Rattle.node_aggregate.proofs.arcs.last_event.Given as goal

abbrev pub invariant-loop-place : goal.invariant-loop-place
invariant-loop-place l = IsLastAmong l.events l.start l.until l.place l.last
