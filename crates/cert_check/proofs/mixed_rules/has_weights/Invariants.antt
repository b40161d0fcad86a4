use Rattle.std.proofs.Common.{◌<◌, ℕ}
use Rattle.fleet_model.specs.Schedule.{leg_on}
use Rattle.dual_bound.specs.Mixed.{weight_in}
use Rattle.dual_bound.specs.Fractions.{IsWeight}
use Rattle.cert_check.proofs.mixed_rules.has_weights.Given as goal

abbrev pub invariant-loop-choice : goal.invariant-loop-choice
invariant-loop-choice l = (c : ℕ) → c < l.choice → IsWeight l.mixed.scale (weight_in l.mixed (leg_on l.leg c))
