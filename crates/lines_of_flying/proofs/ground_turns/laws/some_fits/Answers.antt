use Rattle.lines_of_flying.proofs.ground_turns.SomeMap as proofs
use Rattle.lines_of_flying.proofs.ground_turns.laws.some_fits.Goals as goal

pub returns : goal.returns
returns c = proofs.some_fits
