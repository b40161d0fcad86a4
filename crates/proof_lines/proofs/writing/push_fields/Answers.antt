use Rattle.proof_lines.proofs.LineWords.{both_pushed}
use Rattle.proof_lines.proofs.writing.push_fields.Goals as goal

pub returns : goal.returns
returns c =
    both_pushed c.push_figures.result c.args.text.now.items c.push_names.new.text.items c.push_figures.new.text.items _ _ c.in_ok-push_names.ensures c.push_figures.ensures
