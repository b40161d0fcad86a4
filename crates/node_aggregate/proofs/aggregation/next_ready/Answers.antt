use Rattle.node_aggregate.proofs.Links.{next_is, no_departure}
use Rattle.node_aggregate.proofs.aggregation.next_ready.Goals as goal

pub returns-in_err-departure : goal.returns-in_err-departure
returns-in_err-departure c =
    rw c.from_residual.ensures (no_departure c.args.events.now c.args.start (rw c.from.ensures at c.in_err-departure.ensures))

pub returns : goal.returns
returns c =
    next_is c.args.events.now c.args.start c.in_ok-departure.departure c.first_minute-2.result
    (rw c.from.ensures at c.in_ok-departure.ensures) (rw c.from-2.ensures at c.first_minute-2.ensures)
