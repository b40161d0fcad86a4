use Rattle.fleet_model.proofs.KeptLaws as laws
use Rattle.fleet_model.proofs.laws.allowed_is_kept.Goals as goal

pub returns : goal.returns
returns c = laws.allowed_is_kept
