use Rattle.fleet_model.specs.declared.limits.TheConstants.{MAX_CHOICES}
use Rattle.fleet_model.proofs.KeptRows.{no_fleet_kept}
use Rattle.fleet_model.proofs.kept.no_fleets.Goals as goal

pub returns : goal.returns
returns c = no_fleet_kept MAX_CHOICES
