use Rattle.std.proofs.Common.{ap, ◌∙◌}
use Rattle.proof_lines.specs.Figures.{count_in}
use Rattle.proof_lines.proofs.Fielded.{both_as, made_as}
use Rattle.proof_lines.proofs.fields.grew.Goals as goal

pub returns-in-Err : goal.returns-in-Err
returns-in-Err c =
    made_as _ c.both-2.result _ _ c.in-Err.is
    (both_as c.both-2.result c.both.result _ c.count-3.result _ c.both-2.ensures
    (both_as c.both.result c.count.result _ c.count-2.result _ c.both.ensures (c.count.ensures ∙ ap count_in c.word_at.ensures) (c.count-2.ensures ∙ ap count_in c.word_at-2.ensures))
    (c.count-3.ensures ∙ ap count_in c.word_at-3.ensures))
