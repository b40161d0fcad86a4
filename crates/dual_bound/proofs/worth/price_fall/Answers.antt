use Rattle.std.proofs.Common.{arith}
use Rattle.dual_bound.proofs.Numbers.{taken}
use Rattle.dual_bound.proofs.worth.price_fall.Goals as goal

pub returns-clause-value : goal.returns-clause-value
returns-clause-value c =
    taken 1 1 _ _ _ _ c.price.ensures.size c.price-2.ensures.size (omega arith)
    (rw (c.leg-flown.ensures.value, c.departure.ensures.value) at c.price.ensures.value) (rw (c.leg-flown.ensures.value, c.ready.ensures.value) at c.price-2.ensures.value)
