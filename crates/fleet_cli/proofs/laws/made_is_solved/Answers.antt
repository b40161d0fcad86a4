use Rattle.fleet_cli.proofs.MadeFolder.{made_is_solved}
use Rattle.fleet_cli.proofs.laws.made_is_solved.Goals as goal

pub returns : goal.returns
returns c = made_is_solved
