use Rattle.node_aggregate.specs.island_cut.Spare.{IsBest}
use Rattle.node_aggregate.proofs.island_cut.joined.best_on.Given as goal

abbrev pub invariant-loop-fleet : goal.invariant-loop-fleet
invariant-loop-fleet l = IsBest l.tables l.leg l.fleet l.best
