use Rattle.dual_bound.proofs.Duality as laws
use Rattle.dual_bound.proofs.laws.ceiling_is_lower_bound.Goals as goal

pub returns : goal.returns
returns c = laws.ceiling_is_lower_bound
