use Rattle.lp_rows.proofs.PointsToPlans as laws
use Rattle.lp_rows.proofs.laws.points_cost_as_plans.Goals as goal

pub returns : goal.returns
returns c = laws.points_cost_as_plans
