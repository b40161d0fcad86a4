use Rattle.plan_rotations.proofs.best_matching.DualLaws.{duals_bound_worth}
use Rattle.plan_rotations.proofs.best_matching.laws.duals_bound.Goals as goal

pub returns : goal.returns
returns c = duals_bound_worth
