use Rattle.std.proofs.Common.{rules}
use Rattle.bound_cert.proofs.Lines.{done, proof_done}
use Rattle.bound_cert.proofs.writing.push_proof.Goals as goal

pub returns : goal.returns
returns c =
    done c.push_line-3.result
    (proof_done c.args.tables.now c.args.planned c.args.tree.now c.args.text.now.items c.push_line.new.text.items c.push_line-2.new.text.items
    c.push_tree.new.text.items _ (search rules) (search rules) (search rules))
    c.push_line-3.ensures
