use Rattle.fleet_model.proofs.WholePlans as laws
use Rattle.fleet_model.proofs.laws.whole_is_legal.Goals as goal

pub returns : goal.returns
returns c = laws.whole_is_legal
