use Rattle.fleet_model.specs.Schedule.{period_of}
use Rattle.node_aggregate.specs.EventMinutes.{IsFirstAmong}
use Rattle.node_aggregate.proofs.arcs.first_event.Given as goal

abbrev pub invariant-loop-place : goal.invariant-loop-place
invariant-loop-place l = IsFirstAmong (period_of l.tables) l.events l.place l.first
