use Rattle.dual_bound.proofs.Duality as laws
use Rattle.dual_bound.proofs.laws.worth_is_lower_bound.Goals as goal

pub returns : goal.returns
returns c = laws.worth_is_lower_bound
