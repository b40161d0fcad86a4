use Rattle.std.proofs.Common.{[], ap, length, ◌∙◌}
use Rattle.proof_lines.specs.Known.{naming}
use Rattle.proof_lines.specs.Words.{seen}
use Rattle.bound_cert.specs.Nodes.{end_at, nodes_from, tree_at}
use Rattle.dual_bound.specs.Nodes.{nodes_of}
use Rattle.bound_cert.proofs.ReadOn.{bound}
use Rattle.bound_cert.proofs.ReadTree.{seen_len}
use Rattle.bound_cert.proofs.reading.tree_at.Goals as goal

pub returns : goal.returns
unfolding tree_at
returns c =
    bound (nodes_from (naming c.args.grammar.now) (length (seen c.args.left.now)) [] [] (seen c.args.left.now)) (nodes_of c.in_ok-tree.tree, seen c.in_ok-tree.rest.now) _
    (ap (λ most. nodes_from (naming c.args.grammar.now) most [] [] (seen c.args.left.now)) (seen_len c.args.left.now) ∙ c.in_ok-tree.ensures)
    ∙ bound (end_at (naming c.args.grammar.now) (seen c.in_ok-tree.rest.now)) tt _ c.in_ok-end_at.ensures
