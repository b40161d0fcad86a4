use Rattle.branch_bound.proofs.hinted_trees.Answered.{tree_told}
use Rattle.branch_bound.proofs.hinted_trees.answering.are_answered.Goals as goal

pub returns : goal.returns
returns c = tree_told _ _ _ _ _ _ _ c.new-walker.ensures.kept c.walk.ensures.visited
