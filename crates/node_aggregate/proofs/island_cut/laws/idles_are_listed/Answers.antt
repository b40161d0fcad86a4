use Rattle.node_aggregate.proofs.island_cut.InOrder.{idle_listed, listed_idle}
use Rattle.node_aggregate.proofs.island_cut.laws.idles_are_listed.Goals as goal

pub returns : goal.returns
returns c t s m station minute = (idle_listed t s m station minute, listed_idle t s m)
