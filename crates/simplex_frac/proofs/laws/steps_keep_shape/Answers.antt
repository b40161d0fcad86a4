use Rattle.simplex_frac.proofs.StepLaws.{steps_keep_shape}
use Rattle.simplex_frac.proofs.laws.steps_keep_shape.Goals as goal

pub returns : goal.returns
returns c = steps_keep_shape
