use Rattle.simplex_frac.proofs.BestPoints.{best_tells}
use Rattle.simplex_frac.proofs.laws.best_tells.Goals as goal

pub returns : goal.returns
returns c = best_tells
