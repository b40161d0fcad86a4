use Rattle.node_aggregate.proofs.island_cut.NonePairs.{some_best}
use Rattle.node_aggregate.proofs.island_cut.joined.quickest_on.Goals as goal

pub unwrap-requires : goal.unwrap-requires
unwrap-requires c = some_best c.args.tables.now c.args.leg c.best_on.result c.requires.pairs c.requires.leg c.best_on.ensures
