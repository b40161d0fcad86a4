use Rattle.node_aggregate.proofs.FirstMinutes.{first_is}
use Rattle.node_aggregate.proofs.aggregation.first_minute.Goals as goal

pub returns : goal.returns
returns c = first_is c.args.events.now c.args.ready c.args.from c.loop-event.event-index c.loop-event.first c.loop-event-test.false c.loop-event.auto.event-index-end c.loop-event.invariant
