use Rattle.fleet_model.proofs.UseLaws as laws
use Rattle.fleet_model.proofs.laws.need_suffices.Goals as goal

pub returns : goal.returns
returns c = laws.need_suffices
