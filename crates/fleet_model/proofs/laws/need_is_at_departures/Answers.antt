use Rattle.fleet_model.proofs.NeedAtDepartures as laws
use Rattle.fleet_model.proofs.laws.need_is_at_departures.Goals as goal

pub returns : goal.returns
returns c = laws.need_is_at_departures
