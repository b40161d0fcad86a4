use Rattle.lines_of_flying.proofs.ground_turns.MaintainedNights as proofs
use Rattle.lines_of_flying.proofs.ground_turns.laws.maintained_are_stands.Goals as goal

pub returns : goal.returns
returns c = proofs.maintained_are_stands
