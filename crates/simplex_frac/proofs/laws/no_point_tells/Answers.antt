use Rattle.simplex_frac.proofs.BestPoints.{no_point_tells}
use Rattle.simplex_frac.proofs.laws.no_point_tells.Goals as goal

pub returns : goal.returns
returns c = no_point_tells
