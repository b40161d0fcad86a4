use Rattle.node_aggregate.proofs.island_cut.IslandProofs.{payback_law}
use Rattle.node_aggregate.proofs.island_cut.laws.payback.Goals as goal

pub returns : goal.returns
returns c = payback_law
