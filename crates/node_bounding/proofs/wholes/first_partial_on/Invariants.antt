use Rattle.std.proofs.Common.{ℕ, ◌<◌}
use Rattle.dual_bound.specs.Fractions.{IsWholePair}
use Rattle.node_bounding.proofs.wholes.first_partial_on.Given as goal

abbrev pub invariant-loop-choice : goal.invariant-loop-choice
invariant-loop-choice l = (c : ℕ) → c < l.choice → IsWholePair l.mixed l.leg c
