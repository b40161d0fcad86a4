use Rattle.lines_of_flying.proofs.ground_turns.Fits as proofs
use Rattle.lines_of_flying.proofs.ground_turns.laws.periods_beyond_use.Goals as goal

pub returns : goal.returns
returns c = proofs.periods_beyond_use
