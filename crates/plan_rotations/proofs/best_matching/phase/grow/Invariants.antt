use Rattle.plan_rotations.specs.best_matching.Trees.{IsRowSearch}
use Rattle.plan_rotations.proofs.best_matching.phase.grow.Given as goal

abbrev pub invariant-loop-turn : goal.invariant-loop-turn
invariant-loop-turn l = IsRowSearch l.worths l.draft l.tree l.root l.turn
