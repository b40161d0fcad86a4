use Rattle.std.proofs.Common.{pos, refl}
use Rattle.sums.proofs.Places.{list_below-push}
use Rattle.node_bounding.proofs.made_prices.zero_rents.Goals as goal

pub loop-preserved : goal.loop-preserved
loop-preserved c = rw c.in_ok-push.ensures.items (list_below-push (λ f. pos 0) c.loop.counter c.loop.rents.items _ c.loop.invariant refl)
