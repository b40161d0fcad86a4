use Rattle.lines_of_flying.proofs.ground_turns.Fits as proofs
use Rattle.lines_of_flying.proofs.ground_turns.laws.fits_where_clean.Goals as goal

pub returns : goal.returns
returns c = proofs.fits_where_clean
