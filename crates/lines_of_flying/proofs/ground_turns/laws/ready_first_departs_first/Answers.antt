use Rattle.lines_of_flying.proofs.ground_turns.FirstOrder as proofs
use Rattle.lines_of_flying.proofs.ground_turns.laws.ready_first_departs_first.Goals as goal

pub returns : goal.returns
returns c = proofs.ready_first_departs_first
