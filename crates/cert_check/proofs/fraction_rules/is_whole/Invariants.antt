use Rattle.std.proofs.Common.{ℕ, ◌<◌}
use Rattle.dual_bound.specs.Fractions.{IsWholeLeg}
use Rattle.cert_check.proofs.fraction_rules.is_whole.Given as goal

abbrev pub invariant-loop-leg : goal.invariant-loop-leg
invariant-loop-leg l = (m : ℕ) → m < l.leg → IsWholeLeg l.tables l.mixed m
