use Rattle.cert_check.proofs.NodeRules.{sole_legal, told}
use Rattle.cert_check.proofs.leaves.is_sole_legal.Goals as goal

pub returns-in-Some : goal.returns-in-Some
returns-in-Some c = rw c.is_some.ensures (told _ c.legal_cost.result (sole_legal _ _ _ c.in-Some.ensures.0 c.in-Some.ensures.1 _ c.legal_cost.ensures))
