use Rattle.fleet_model.proofs.UseLaws as laws
use Rattle.fleet_model.proofs.laws.need_is_least.Goals as goal

pub returns : goal.returns
returns c = laws.need_is_least
