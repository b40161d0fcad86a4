use Rattle.simplex_frac.proofs.NoBasisTwice.{pivots_are_few}
use Rattle.simplex_frac.proofs.laws.pivots_are_few.Goals as goal

pub returns : goal.returns
returns c = pivots_are_few
