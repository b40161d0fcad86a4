use Rattle.node_aggregate.proofs.island_cut.IslandProofs.{idle_is_empty}
use Rattle.node_aggregate.proofs.island_cut.laws.idle_is_empty.Goals as goal

pub returns : goal.returns
returns c = idle_is_empty
