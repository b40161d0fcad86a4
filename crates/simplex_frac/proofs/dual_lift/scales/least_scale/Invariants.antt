use Rattle.simplex_frac.proofs.dual_lift.ScaleSteps.{IsScaleSoFar}
use Rattle.simplex_frac.proofs.dual_lift.scales.least_scale.Given as goal

abbrev pub invariant-loop-line : goal.invariant-loop-line
invariant-loop-line g l = IsScaleSoFar l.most (g.R.RowStore.content l.table) l.basis l.wanted l.line l.scale
