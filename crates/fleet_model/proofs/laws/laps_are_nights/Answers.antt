use Rattle.fleet_model.proofs.NightsUsed as laws
use Rattle.fleet_model.proofs.laws.laps_are_nights.Goals as goal

pub returns : goal.returns
returns c = laws.laps_are_nights
