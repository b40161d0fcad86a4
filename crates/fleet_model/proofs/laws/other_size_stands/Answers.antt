use Rattle.fleet_model.proofs.OtherSizes as sizes
use Rattle.fleet_model.proofs.laws.other_size_stands.Goals as goal

pub returns : goal.returns
returns c = sizes.other_size_stands
