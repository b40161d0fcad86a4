use Rattle.std.proofs.Common.{refl, ◌∙◌}
use Rattle.sums.proofs.Places.{list_below-push}
use Rattle.lines_of_flying.proofs.cycle_join.labels.own_labels.Goals as goal

pub loop-leg-preserved : goal.loop-leg-preserved
loop-leg-preserved c =
    c.in_ok-push.ensures.items ∙ list_below-push (λ k. k) c.loop-leg.leg c.loop-leg.labels.items c.loop-leg.leg c.loop-leg.invariant refl
