use Rattle.lines_of_flying.proofs.ground_turns.Fits as proofs
use Rattle.lines_of_flying.proofs.ground_turns.laws.waiting_is_stand.Goals as goal

pub returns : goal.returns
returns c = proofs.waiting_is_stand
