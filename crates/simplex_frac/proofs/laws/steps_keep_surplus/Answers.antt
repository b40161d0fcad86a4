use Rattle.simplex_frac.proofs.StepLaws.{steps_keep_surplus}
use Rattle.simplex_frac.proofs.laws.steps_keep_surplus.Goals as goal

pub returns : goal.returns
returns c = steps_keep_surplus
