use Rattle.euler_rotation.proofs.Gaps.{below_often, often_below}
use Rattle.euler_rotation.proofs.laws.below_is_often.Goals as goal

pub returns : goal.returns
returns c t days nights some = (below_often t days nights some, often_below t days nights some)
