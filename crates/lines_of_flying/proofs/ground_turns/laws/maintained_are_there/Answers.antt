use Rattle.lines_of_flying.proofs.ground_turns.Stays as proofs
use Rattle.lines_of_flying.proofs.ground_turns.laws.maintained_are_there.Goals as goal

pub returns : goal.returns
returns c = proofs.maintained_are_there
