use Rattle.std.proofs.Common.{◌≡◌, ◌<◌, ℕ, false}
use Rattle.fleet_model.specs.Kept.{kept_by}
use Rattle.fleet_model.specs.Schedule.{leg_on}
use Rattle.dual_bound.specs.Fractions.{parts_in}
use Rattle.cert_check.proofs.mixed_rules.flies_kept_on.Given as goal

abbrev pub invariant-loop-choice : goal.invariant-loop-choice
invariant-loop-choice l = (c : ℕ) → c < l.choice → kept_by l.kept (leg_on l.leg c) ≡ false → parts_in l.mixed (leg_on l.leg c) ≡ 0
