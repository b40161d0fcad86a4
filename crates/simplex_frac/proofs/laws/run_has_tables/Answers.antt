use Rattle.simplex_frac.proofs.RunPoints.{has_tables}
use Rattle.simplex_frac.proofs.laws.run_has_tables.Goals as goal

pub returns : goal.returns
returns c = has_tables
