use Rattle.std.proofs.Common.{ap, ◌∙◌}
use Rattle.proof_lines.specs.Figures.{day_in, signed_figure}
use Rattle.proof_lines.specs.Known.{naming, station_in}
use Rattle.proof_lines.specs.Reading.{form_line}
use Rattle.proof_lines.proofs.Fielded.{both_as, made_as}
use Rattle.proof_lines.proofs.fields.charge.Goals as goal

pub returns-in-Err : goal.returns-in-Err
unfolding form_line
returns-in-Err c =
    made_as _ c.both-2.result _ _ c.in-Err.is
    (both_as c.both-2.result c.station.result _ c.both.result _ c.both-2.ensures (c.station.ensures ∙ ap (station_in (naming c.args.grammar.now)) c.word_at.ensures)
    (both_as c.both.result c.day.result _ c.number.result _ c.both.ensures (c.day.ensures ∙ ap (λ days. day_in days c.word_at-2.result.now) c.days.ensures ∙ ap (day_in _) c.word_at-2.ensures) (c.number.ensures ∙ ap signed_figure c.word_at-3.ensures)))
