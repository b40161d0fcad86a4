use Rattle.node_aggregate.proofs.NodeEnds as laws
use Rattle.node_aggregate.proofs.laws.need_is_at_node_ends.Goals as goal

pub returns : goal.returns
returns c = laws.need_is_at_node_ends
