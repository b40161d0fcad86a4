use Rattle.node_aggregate.proofs.Links.{next_with_day, next_without}
use Rattle.node_aggregate.proofs.aggregation.next_start.Goals as goal

pub returns-in-Some : goal.returns-in-Some
returns-in-Some c =
    rw c.sooner.ensures (next_with_day c.args.events.now c.args.days c.args.start c.in-Some.day c.next_ready-ready.result c.next_ready-ready.ensures c.in-Some.ensures)

pub returns-in-None : goal.returns-in-None
returns-in-None c = next_without c.args.events.now c.args.days c.args.start c.next_ready-ready.result c.next_ready-ready.ensures c.in-None.ensures
