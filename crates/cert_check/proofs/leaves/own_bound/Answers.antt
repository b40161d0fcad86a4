use Rattle.std.proofs.Common.{ap}
use Rattle.cert_check.specs.Nodes.{prices_at}
use Rattle.cert_check.proofs.OtherSizes.{prices_of, sole_of}
use Rattle.cert_check.proofs.leaves.own_bound.Goals as goal

pub sole_cost-requires-clause-sole : goal.sole_cost-requires-clause-sole
sole_cost-requires-clause-sole c = sole_of _ _ _ c.in-Sole.is c.requires.sound

pub rounded_worth-requires-clause-proper : goal.rounded_worth-requires-clause-proper
rounded_worth-requires-clause-proper c = prices_of _ _ _ _ (ap prices_at c.in-Priced.is) c.requires.sound

pub rounded_worth-requires-in-Open-clause-proper : goal.rounded_worth-requires-in-Open-clause-proper
rounded_worth-requires-in-Open-clause-proper c = prices_of _ _ _ _ (ap prices_at c.in-Open.is) c.requires.sound
