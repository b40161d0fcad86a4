use Rattle.std.proofs.Common.{◌++◌, ◌∙◌, ap, map, rules}
use Rattle.bound_cert.specs.ProofText.{text_of_lines, weight_line}
use Rattle.bound_cert.proofs.Lines.{done, headed}
use Rattle.bound_cert.proofs.writing.push_mixed.Goals as goal
use Rattle.proof_lines.specs.declared.line.Line.TheVariants as says

pub returns : goal.returns
returns c =
    done c.push_entries.result
    (λ added.
    headed c.args.tables.now (says.Mixed c.args.mixed.now.scale) (map weight_line c.args.mixed.now.weights) c.args.text.now.items c.push_line.new.text.items _ (search rules)
    (added ∙ ap (λ weights. c.push_line.new.text.items ++ text_of_lines c.args.tables.now (map weight_line weights)) c.as_slice.ensures))
    c.push_entries.ensures
