use Rattle.fleet_model.proofs.KeptLaws as laws
use Rattle.fleet_model.proofs.laws.sole_is_one.Goals as goal

pub returns : goal.returns
returns c = laws.sole_is_one
