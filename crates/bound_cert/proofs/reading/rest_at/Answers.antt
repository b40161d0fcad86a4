use Rattle.std.proofs.Common.{ap, drop, ◌∙◌}
use Rattle.proof_lines.specs.Known.{naming}
use Rattle.proof_lines.specs.Words.{seen}
use Rattle.bound_cert.specs.Nodes.{plan_at, rest_at, tree_at}
use Rattle.dual_bound.specs.Nodes.{nodes_of}
use Rattle.bound_cert.proofs.ReadOn.{behind_is, bound}
use Rattle.bound_cert.proofs.reading.rest_at.Goals as goal

pub returns : goal.returns
unfolding rest_at
returns c =
    bound (plan_at (naming c.args.grammar.now) (seen c.args.left.now)) c.in_ok-planned.planned _ c.in_ok-planned.ensures
    ∙ bound (tree_at (naming c.args.grammar.now) (drop 1 (seen c.args.left.now))) (nodes_of c.in_ok-tree.tree) _
    (ap (tree_at (naming c.args.grammar.now)) (behind_is c.args.left.now c.behind.result.now c.behind.ensures) ∙ c.in_ok-tree.ensures)
