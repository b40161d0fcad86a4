use Rattle.node_aggregate.proofs.OneList as laws
use Rattle.node_aggregate.proofs.laws.nodes_are_one.Goals as goal

pub returns : goal.returns
returns c = laws.nodes_are_one
