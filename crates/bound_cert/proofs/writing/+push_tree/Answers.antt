use Rattle.std.proofs.Common.{◌++◌, ◌∙◌, ap}
use Rattle.bound_cert.specs.ProofText.{text_of_lines, tree_lines}
use Rattle.dual_bound.specs.Nodes.{nodes_of}
use Rattle.bound_cert.proofs.Lines.{done, parent_nodes, tree_done}
use Rattle.bound_cert.proofs.writing.+push_tree.Goals as goal

pub returns-in_ok-push_tree-in-Trim : goal.returns-in_ok-push_tree-in-Trim
returns-in_ok-push_tree-in-Trim k c =
    let nodes = parent_nodes c.args.tree.now c.in-Trim.yes c.in-Trim.no c.in-Trim.is in
    done c.push_tree-in-Trim.result
    (λ added.
    tree_done c.args.tables.now c.args.tree.now nodes.0 (nodes_of c.in-Trim.yes.value) (nodes_of c.in-Trim.no.value) c.args.text.now.items c.push_node.new.text.items c.push_tree.new.text.items _ nodes.1 c.in_ok-push_node.ensures
    (c.in_ok-push_tree-in-Trim.ensures ∙ ap (λ tree. c.push_node.new.text.items ++ text_of_lines c.args.tables.now (tree_lines c.args.tables.now tree)) c.deref.ensures)
    (added ∙ ap (λ tree. c.push_tree.new.text.items ++ text_of_lines c.args.tables.now (tree_lines c.args.tables.now tree)) c.deref-in-Trim.ensures))
    c.push_tree-in-Trim.ensures
