use Rattle.lines_of_flying.proofs.ground_turns.ApartMaps as proofs
use Rattle.lines_of_flying.proofs.ground_turns.laws.tour_is_whole.Goals as goal

pub returns : goal.returns
returns c = proofs.tour_is_whole
