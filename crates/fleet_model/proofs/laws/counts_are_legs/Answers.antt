use Rattle.fleet_model.proofs.UseLaws as laws
use Rattle.fleet_model.proofs.laws.counts_are_legs.Goals as goal

pub returns : goal.returns
returns c = laws.counts_are_legs
