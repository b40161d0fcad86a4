use Rattle.dual_bound.proofs.ZeroPrices as laws
use Rattle.dual_bound.proofs.laws.zero_is_proper.Goals as goal

pub returns : goal.returns
returns c = laws.zero_is_proper
