use Rattle.simplex_frac.proofs.ReachedPoints.{has_tables}
use Rattle.simplex_frac.proofs.laws.steps_have_tables.Goals as goal

pub returns : goal.returns
returns c = has_tables
