use Rattle.std.proofs.Common.{◌∙◌}
use Rattle.branch_bound.proofs.SolvedTrees.{proved_by, solved_by}
use Rattle.branch_bound.proofs.solving.solve.Goals as goal

pub settle-requires : goal.settle-requires
settle-requires g c = rw c.in_ok-best.ensures.closed (proved_by c.args.tables.now c.args.nodes c.args.pivots _ _ c.in_ok-best.ensures.found)

pub returns : goal.returns
returns g c = solved_by c.args.tables.now c.args.nodes c.args.pivots _ _ c.in_ok-best.ensures.found _ c.settle.ensures.right c.settle.ensures.plan (c.settle.ensures.tree ∙ c.in_ok-best.ensures.closed)
