use Rattle.std.proofs.Common.{◌++◌, ◌∙◌, ap, subst, sym}
use Rattle.bound_cert.specs.ProofText.{root_of}
use Rattle.proof_lines.specs.LineText.{IsNamed, text_of}
use Rattle.bound_cert.proofs.Lines.{done, first_named, node_done}
use Rattle.bound_cert.proofs.writing.push_node.Goals as goal

pub push_line-requires : goal.push_line-requires
push_line-requires c = subst (IsNamed c.args.tables.now) (sym c.first_line-line.ensures) (first_named c.args.tables.now c.args.tree.now c.requires)

pub returns : goal.returns
returns c =
    done c.push_more.result
    (node_done c.args.tables.now (root_of c.args.tree.now) c.args.text.now.items c.push_line.new.text.items _
    (c.in_ok-push_line.ensures ∙ ap (λ line. c.args.text.now.items ++ text_of c.args.tables.now line) c.first_line-line.ensures))
    c.push_more.ensures
