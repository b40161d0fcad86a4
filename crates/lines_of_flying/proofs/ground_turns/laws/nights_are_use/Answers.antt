use Rattle.lines_of_flying.proofs.ground_turns.TourNights as proofs
use Rattle.lines_of_flying.proofs.ground_turns.laws.nights_are_use.Goals as goal

pub returns : goal.returns
returns c = proofs.nights_are_use
