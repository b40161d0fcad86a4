use Rattle.lp_rows.proofs.PlansToPoints as laws
use Rattle.lp_rows.proofs.laws.plans_are_points.Goals as goal

pub returns : goal.returns
returns c = laws.plans_are_points
