use Rattle.fleet_model.proofs.MixedPlans as laws
use Rattle.fleet_model.proofs.laws.legal_is_mixed.Goals as goal

pub returns : goal.returns
returns c = laws.legal_is_mixed
