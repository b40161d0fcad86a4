use Rattle.simplex_frac.proofs.OneEnd.{has_one_end}
use Rattle.simplex_frac.proofs.laws.has_one_end.Goals as goal

pub returns : goal.returns
returns c = has_one_end
