use Rattle.node_aggregate.proofs.island_cut.IslandProofs.{idle_is_empty_in_plans}
use Rattle.node_aggregate.proofs.island_cut.laws.idle_is_empty_in_plans.Goals as goal

pub returns : goal.returns
returns c = idle_is_empty_in_plans
