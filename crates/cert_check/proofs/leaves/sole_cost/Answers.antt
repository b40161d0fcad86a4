use Rattle.cert_check.proofs.Sized.{sole_by}
use Rattle.cert_check.proofs.leaves.sole_cost.Goals as goal

pub returns-in-Some : goal.returns-in-Some
returns-in-Some c = sole_by _ _ _ _ _ c.requires.sole c.in-Some.ensures.1 c.legal_cost.ensures
