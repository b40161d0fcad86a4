use Rattle.fleet_model.specs.declared.limits.TheConstants.{MAX_CHOICES, MAX_LEGS}
use Rattle.fleet_model.proofs.KeptRows.{no_pair_kept}
use Rattle.fleet_model.proofs.kept.Kept.none.Goals as goal

pub returns : goal.returns
returns c = no_pair_kept MAX_LEGS MAX_CHOICES
