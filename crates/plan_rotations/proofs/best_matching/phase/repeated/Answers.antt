use Rattle.std.proofs.Common.{◌∙◌, refl}
use Rattle.sums.proofs.Places.{list_below-push}
use Rattle.plan_rotations.proofs.best_matching.phase.repeated.Goals as goal

pub loop-preserved : goal.loop-preserved
loop-preserved c = c.in_ok-push.ensures.items ∙ list_below-push _ c.loop.counter _ _ c.loop.invariant refl
