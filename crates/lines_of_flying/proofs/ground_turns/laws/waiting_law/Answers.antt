use Rattle.lines_of_flying.proofs.ground_turns.Waits as proofs
use Rattle.lines_of_flying.proofs.ground_turns.laws.waiting_law.Goals as goal

pub returns : goal.returns
returns c = proofs.waiting_law
