use Rattle.std.proofs.Common.{ap}
use Rattle.cert_check.specs.Nodes.{prices_at}
use Rattle.cert_check.proofs.OtherSizes.{prices_of}
use Rattle.cert_check.proofs.asking.has_fallen.Goals as goal

pub refutes-requires-clause-proper : goal.refutes-requires-clause-proper
refutes-requires-clause-proper c = prices_of _ _ _ _ (ap prices_at c.in-Refuted.is) c.requires.sound
