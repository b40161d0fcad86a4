use Rattle.std.proofs.Common.{◌<◌, ℕ}
use Rattle.dual_bound.specs.Fractions.{HasWeights}
use Rattle.cert_check.proofs.mixed_rules.have_weights.Given as goal

abbrev pub invariant-loop-leg : goal.invariant-loop-leg
invariant-loop-leg l = (m : ℕ) → m < l.leg → HasWeights l.tables l.mixed m
