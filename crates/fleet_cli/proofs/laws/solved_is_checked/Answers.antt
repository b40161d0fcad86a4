use Rattle.fleet_cli.proofs.SolvedFiles.{solved_is_checked}
use Rattle.fleet_cli.proofs.laws.solved_is_checked.Goals as goal

pub returns : goal.returns
returns c = solved_is_checked
