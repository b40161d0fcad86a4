use Rattle.node_aggregate.proofs.island_cut.IslandProofs.{some_idle}
use Rattle.node_aggregate.proofs.island_cut.laws.some_idle.Goals as goal

pub returns : goal.returns
returns c = some_idle
