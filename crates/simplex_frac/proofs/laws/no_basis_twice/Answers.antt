use Rattle.simplex_frac.proofs.NoBasisTwice.{no_basis_twice}
use Rattle.simplex_frac.proofs.laws.no_basis_twice.Goals as goal

pub returns : goal.returns
returns c = no_basis_twice
