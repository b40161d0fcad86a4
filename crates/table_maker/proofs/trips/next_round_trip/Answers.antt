use Rattle.std.proofs.Common.{refl}
use Rattle.table_maker.specs.Draws.{state_after}
use Rattle.table_maker.proofs.trips.next_round_trip.Goals as goal

pub returns-clause-trip : goal.returns-clause-trip
unfolding state_after
returns-clause-trip c =
    rw (c.below-spoke.ensures.drawn, c.from.ensures, c.below.ensures.drawn, c.below-2.ensures.drawn, c.below-3.ensures.drawn, c.below-value.ensures.drawn)
    (rw (c.next_cost.ensures.cost, c.next_cost-2.ensures.cost, c.next_cost-3.ensures.cost, c.next_cost-4.ensures.cost)
    (rw (c.below-value.ensures.state, c.next_cost-4.ensures.state, c.next_cost-3.ensures.state, c.next_cost-2.ensures.state, c.next_cost.ensures.state)
    (rw (c.below-3.ensures.state, c.below-2.ensures.state, c.below.ensures.state, c.below-spoke.ensures.state) refl)))

pub returns-clause-drawn : goal.returns-clause-drawn
unfolding state_after
returns-clause-drawn c =
    rw (c.below-value.ensures.state, c.next_cost-4.ensures.state, c.next_cost-3.ensures.state, c.next_cost-2.ensures.state, c.next_cost.ensures.state)
    (rw (c.below-3.ensures.state, c.below-2.ensures.state, c.below.ensures.state, c.below-spoke.ensures.state) refl)
