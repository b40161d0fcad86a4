use Rattle.std.proofs.Common.{refl, ◌∙◌}
use Rattle.sums.proofs.Places.{list_below-push}
use Rattle.simplex_frac.proofs.basis.first_basis.Goals as goal

pub loop-line-preserved : goal.loop-line-preserved
loop-line-preserved c = c.in_ok-push.ensures.items ∙ list_below-push _ c.loop-line.line _ _ c.loop-line.invariant refl
