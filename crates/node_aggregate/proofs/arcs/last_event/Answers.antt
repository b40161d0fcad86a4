use Rattle.node_aggregate.proofs.EventSteps.{last_more, none_last}
use Rattle.node_aggregate.proofs.arcs.last_event.Goals as goal

pub loop-place-init : goal.loop-place-init
loop-place-init c = none_last c.args.events.now c.args.start c.args.until

pub loop-place-preserved : goal.loop-place-preserved
loop-place-preserved c =
    last_more c.args.events.now c.args.start c.args.until c.loop-place.place c.loop-place.last c.minute_at.result c.later-last.result c.loop-place.invariant c.minute_at.ensures c.later-last.ensures
