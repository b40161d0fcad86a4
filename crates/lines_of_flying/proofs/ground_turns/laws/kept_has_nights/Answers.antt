use Rattle.lines_of_flying.proofs.ground_turns.MaintainedNights as proofs
use Rattle.lines_of_flying.proofs.ground_turns.laws.kept_has_nights.Goals as goal

pub returns : goal.returns
returns c = proofs.kept_has_nights
