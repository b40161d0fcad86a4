use Rattle.simplex_frac.proofs.RayPoints.{ray_is_direction}
use Rattle.simplex_frac.proofs.laws.ray_is_direction.Goals as goal

pub returns : goal.returns
returns c = ray_is_direction
