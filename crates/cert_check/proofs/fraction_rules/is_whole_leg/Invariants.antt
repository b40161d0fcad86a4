use Rattle.std.proofs.Common.{ℕ, ◌<◌}
use Rattle.dual_bound.specs.Fractions.{IsWholePair}
use Rattle.cert_check.proofs.fraction_rules.is_whole_leg.Given as goal

abbrev pub invariant-loop-choice : goal.invariant-loop-choice
invariant-loop-choice l = (c : ℕ) → c < l.choice → IsWholePair l.mixed l.leg c
