use Rattle.node_aggregate.proofs.island_cut.InOrder.{idles_rise}
use Rattle.node_aggregate.proofs.island_cut.laws.idles_rise.Goals as goal

pub returns : goal.returns
returns c = idles_rise
