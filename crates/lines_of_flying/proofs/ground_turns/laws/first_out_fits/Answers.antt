use Rattle.lines_of_flying.proofs.ground_turns.FirstOuts as proofs
use Rattle.lines_of_flying.proofs.ground_turns.laws.first_out_fits.Goals as goal

pub returns : goal.returns
returns c = proofs.first_out_fits
