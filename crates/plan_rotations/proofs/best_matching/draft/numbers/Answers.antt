use Rattle.std.proofs.Common.{◌∙◌, refl}
use Rattle.sums.proofs.Places.{list_below-push}
use Rattle.plan_rotations.proofs.best_matching.draft.numbers.Goals as goal

pub loop-number-preserved : goal.loop-number-preserved
loop-number-preserved c = c.in_ok-push.ensures.items ∙ list_below-push _ c.loop-number.number _ _ c.loop-number.invariant refl
