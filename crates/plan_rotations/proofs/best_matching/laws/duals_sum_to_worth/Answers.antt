use Rattle.plan_rotations.proofs.best_matching.DualLaws.{duals_sum}
use Rattle.plan_rotations.proofs.best_matching.laws.duals_sum_to_worth.Goals as goal

pub returns : goal.returns
returns c = duals_sum
