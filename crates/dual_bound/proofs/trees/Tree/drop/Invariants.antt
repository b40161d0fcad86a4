use Rattle.dual_bound.specs.Dropping.{load_of}
use Rattle.dual_bound.proofs.trees.Tree.drop.Given as goal

abbrev pub decreases-loop-self : goal.decreases-loop-self
decreases-loop-self l = load_of l.self
