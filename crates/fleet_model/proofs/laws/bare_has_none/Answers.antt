use Rattle.fleet_model.proofs.KeptLaws as laws
use Rattle.fleet_model.proofs.laws.bare_has_none.Goals as goal

pub returns : goal.returns
returns c = laws.bare_has_none
