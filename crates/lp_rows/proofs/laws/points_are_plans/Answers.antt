use Rattle.lp_rows.proofs.PointsToPlans as laws
use Rattle.lp_rows.proofs.laws.points_are_plans.Goals as goal

pub returns : goal.returns
returns c = laws.points_are_plans
