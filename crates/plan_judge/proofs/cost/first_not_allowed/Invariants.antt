use Rattle.std.proofs.Common.{ℕ, ◌<◌, IsSome}
use Rattle.fleet_model.specs.Counts.{pair_at}
use Rattle.fleet_model.specs.Legal.{cost_of}
use Rattle.plan_judge.proofs.cost.first_not_allowed.Given as goal

abbrev pub invariant-loop-leg : goal.invariant-loop-leg
invariant-loop-leg l = (k : ℕ) → k < l.leg → IsSome (cost_of l.tables (pair_at l.plan k))
