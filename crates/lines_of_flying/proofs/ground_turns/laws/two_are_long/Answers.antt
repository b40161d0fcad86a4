use Rattle.lines_of_flying.proofs.ground_turns.Stays as proofs
use Rattle.lines_of_flying.proofs.ground_turns.laws.two_are_long.Goals as goal

pub returns : goal.returns
returns c = proofs.two_are_long
