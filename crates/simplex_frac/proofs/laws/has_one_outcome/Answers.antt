use Rattle.simplex_frac.proofs.OneOutcome.{has_one_outcome}
use Rattle.simplex_frac.proofs.laws.has_one_outcome.Goals as goal

pub returns : goal.returns
returns c = has_one_outcome
