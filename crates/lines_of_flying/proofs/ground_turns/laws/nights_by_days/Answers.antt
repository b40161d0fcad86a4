use Rattle.lines_of_flying.proofs.ground_turns.TourNights as proofs
use Rattle.lines_of_flying.proofs.ground_turns.laws.nights_by_days.Goals as goal

pub returns : goal.returns
returns c = proofs.nights_by_days
