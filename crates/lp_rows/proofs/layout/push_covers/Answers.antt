use Rattle.std.proofs.Common.{refl}
use Rattle.lp_rows.specs.declared.kinds.Line.TheVariants.{Cover}
use Rattle.lp_rows.proofs.ListSums.{one_behind}
use Rattle.lp_rows.proofs.layout.push_covers.Goals as goal

pub loop-leg-preserved : goal.loop-leg-preserved
loop-leg-preserved c = one_behind _ _ _ Cover c.loop-leg.leg _ c.loop-leg.invariant c.in_ok-push.ensures.items refl
