use Rattle.lines_of_flying.proofs.ground_turns.ApartMaps as proofs
use Rattle.lines_of_flying.proofs.ground_turns.laws.apart_for_all.Goals as goal

pub returns : goal.returns
returns c = proofs.apart_for_all
