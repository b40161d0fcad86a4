use Rattle.std.proofs.Common.{◌≢◌, ℕ, ◌<◌}
use Rattle.fleet_model.specs.Counts.{choice_at}
use Rattle.lines_of_flying.proofs.cycle_join.parts.first_leg.Given as goal

abbrev pub invariant-loop-leg : goal.invariant-loop-leg
invariant-loop-leg l = (k : ℕ) → k < l.leg → choice_at l.ground.plan.now k ≢ l.ground.fleet
