use Rattle.node_aggregate.proofs.EmptyArcs.{gone_is_empty}
use Rattle.node_aggregate.proofs.laws.gone_is_empty.Goals as goal

pub returns : goal.returns
returns c = gone_is_empty
