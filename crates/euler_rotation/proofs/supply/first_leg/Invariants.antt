use Rattle.std.proofs.Common.{◌≢◌, ◌<◌, ℕ}
use Rattle.fleet_model.specs.Counts.{choice_at}
use Rattle.euler_rotation.proofs.supply.first_leg.Given as goal

abbrev pub invariant-loop-leg : goal.invariant-loop-leg
invariant-loop-leg l = (k : ℕ) → k < l.leg → choice_at l.asked.plan.now k ≢ l.asked.fleet
