use Rattle.branch_bound.proofs.hinted_trees.Settled.{solves}
use Rattle.branch_bound.proofs.hinted_trees.solving.solved_by_tree.Goals as goal

pub returns-then-are_answered : goal.returns-then-are_answered
returns-then-are_answered c =
    rw c.settled.ensures (solves _ _ _ _ _ c.requires.plan c.requires.written (rw c.cost_of-cost.ensures at c.in-Holds.ensures.verdict) c.in-Holds.ensures.proof c.if-spends_splits.ensures
    (rw c.cost_of-cost.ensures at c.if-are_answered.ensures))
