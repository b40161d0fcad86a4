use Rattle.fleet_model.proofs.UseLaws as laws
use Rattle.fleet_model.proofs.laws.use_is_constant.Goals as goal

pub returns : goal.returns
returns c = laws.use_is_constant
