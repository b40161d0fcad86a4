use Rattle.simplex_frac.proofs.StepLaws.{steps_keep_points}
use Rattle.simplex_frac.proofs.laws.steps_keep_points.Goals as goal

pub returns : goal.returns
returns c = steps_keep_points
