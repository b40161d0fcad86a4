use Rattle.fleet_model.specs.Schedule.{period_of}
use Rattle.node_aggregate.proofs.EventSteps.{first_more, none_first}
use Rattle.node_aggregate.proofs.arcs.first_event.Goals as goal

pub loop-place-init : goal.loop-place-init
loop-place-init c = none_first (period_of c.args.tables.now) c.args.events.now c.period-first.result c.period-first.ensures.value

pub loop-place-preserved : goal.loop-place-preserved
loop-place-preserved c = first_more (period_of c.args.tables.now) c.args.events.now c.loop-place.place c.loop-place.first c.minute_at.result c.sooner-first.result c.loop-place.invariant c.minute_at.ensures c.sooner-first.ensures
