use Rattle.std.proofs.Common.{◌++◌, ◌∙◌, ap}
use Rattle.proof_lines.specs.Forms.{form_of, keywords}
use Rattle.proof_lines.specs.LineText.{fields_of}
use Rattle.proof_lines.specs.Words.{joined}
use Rattle.proof_lines.proofs.LineWords.{line_done}
use Rattle.proof_lines.proofs.writing.push_line.Goals as goal

pub returns : goal.returns
returns c =
    line_done c.push_bytes.result (form_of c.args.line.now) (fields_of c.args.tables.now c.args.line.now) c.args.text.now.items c.push_keywords.new.text.items c.push_fields.new.text.items _
    (c.in_ok-push_keywords.ensures ∙ ap (λ form. c.args.text.now.items ++ joined (keywords form)) c.form.ensures) c.in_ok-push_fields.ensures c.push_bytes.ensures
