use Rattle.lines_of_flying.proofs.ground_turns.CleanTurns as proofs
use Rattle.lines_of_flying.proofs.ground_turns.laws.segments_tell_clean.Goals as goal

pub returns : goal.returns
returns c = proofs.segments_tell_clean
