use Rattle.simplex_frac.proofs.RunPoints.{run_is_reached}
use Rattle.simplex_frac.proofs.laws.run_is_reached.Goals as goal

pub returns : goal.returns
returns c = run_is_reached
