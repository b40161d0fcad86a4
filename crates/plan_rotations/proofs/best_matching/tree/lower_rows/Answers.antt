use Rattle.std.proofs.Common.{arith}
use Rattle.sums.proofs.Places.{filled_all}
use Rattle.plan_rotations.proofs.best_matching.tree.lower_rows.Goals as goal

pub returns : goal.returns
returns c = filled_all _ _ _ _ _ c.loop-row.invariant (omega arith)
