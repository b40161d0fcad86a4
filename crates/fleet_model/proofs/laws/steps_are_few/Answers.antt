use Rattle.fleet_model.proofs.LeftOut as laws
use Rattle.fleet_model.proofs.laws.steps_are_few.Goals as goal

pub returns : goal.returns
returns c = laws.steps_are_few
