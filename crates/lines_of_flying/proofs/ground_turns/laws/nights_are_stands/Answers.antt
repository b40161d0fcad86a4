use Rattle.lines_of_flying.proofs.ground_turns.NightCounts as proofs
use Rattle.lines_of_flying.proofs.ground_turns.laws.nights_are_stands.Goals as goal

pub returns : goal.returns
returns c = proofs.nights_are_stands
