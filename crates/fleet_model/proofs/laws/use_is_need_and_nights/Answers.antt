use Rattle.fleet_model.proofs.NightsUsed as laws
use Rattle.fleet_model.proofs.laws.use_is_need_and_nights.Goals as goal

pub returns : goal.returns
returns c = laws.use_is_need_and_nights
