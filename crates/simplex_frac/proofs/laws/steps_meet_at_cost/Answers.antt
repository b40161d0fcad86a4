use Rattle.simplex_frac.proofs.BasicPoints.{meets_at_cost}
use Rattle.simplex_frac.proofs.laws.steps_meet_at_cost.Goals as goal

pub returns : goal.returns
returns c = meets_at_cost
