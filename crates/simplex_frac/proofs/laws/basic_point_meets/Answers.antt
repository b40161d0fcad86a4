use Rattle.simplex_frac.proofs.MetPoints.{basic_point_meets}
use Rattle.simplex_frac.proofs.laws.basic_point_meets.Goals as goal

pub returns : goal.returns
returns c = basic_point_meets
