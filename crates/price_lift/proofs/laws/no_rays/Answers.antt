use Rattle.price_lift.proofs.RunEnds.{no_ray}
use Rattle.price_lift.proofs.laws.no_rays.Goals as goal

pub returns : goal.returns
returns c = no_ray
