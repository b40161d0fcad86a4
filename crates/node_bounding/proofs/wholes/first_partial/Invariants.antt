use Rattle.std.proofs.Common.{ℕ, ◌<◌}
use Rattle.dual_bound.specs.Fractions.{IsWholeLeg}
use Rattle.node_bounding.proofs.wholes.first_partial.Given as goal

abbrev pub invariant-loop-leg : goal.invariant-loop-leg
invariant-loop-leg l = (k : ℕ) → k < l.leg → IsWholeLeg l.tables l.mixed k
