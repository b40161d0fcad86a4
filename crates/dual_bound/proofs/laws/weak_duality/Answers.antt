use Rattle.dual_bound.proofs.Duality as laws
use Rattle.dual_bound.proofs.laws.weak_duality.Goals as goal

pub returns : goal.returns
returns c = laws.weak_duality
