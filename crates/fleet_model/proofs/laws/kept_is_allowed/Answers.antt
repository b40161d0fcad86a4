use Rattle.fleet_model.proofs.KeptLaws as laws
use Rattle.fleet_model.proofs.laws.kept_is_allowed.Goals as goal

pub returns : goal.returns
returns c = laws.kept_is_allowed
