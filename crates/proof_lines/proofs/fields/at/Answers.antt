use Rattle.std.proofs.Common.{ap, ◌∙◌}
use Rattle.proof_lines.specs.Figures.{minute_in, signed_figure}
use Rattle.proof_lines.specs.Known.{fleet_in, naming, station_in}
use Rattle.proof_lines.specs.Reading.{form_line}
use Rattle.proof_lines.proofs.Fielded.{both_as, made_as}
use Rattle.proof_lines.proofs.fields.at.Goals as goal

pub returns-in-Err : goal.returns-in-Err
unfolding form_line
returns-in-Err c =
    made_as _ c.both-3.result _ _ c.in-Err.is
    (both_as c.both-3.result c.both.result _ c.both-2.result _ c.both-3.ensures
    (both_as c.both.result c.fleet.result _ c.station.result _ c.both.ensures (c.fleet.ensures.value ∙ ap (fleet_in (naming c.args.grammar.now)) c.word_at.ensures) (c.station.ensures ∙ ap (station_in (naming c.args.grammar.now)) c.word_at-2.ensures))
    (both_as c.both-2.result c.minute.result _ c.number.result _ c.both-2.ensures (c.minute.ensures ∙ ap (λ last. minute_in last c.word_at-3.result.now) c.last.ensures ∙ ap (minute_in _) c.word_at-3.ensures) (c.number.ensures ∙ ap signed_figure c.word_at-4.ensures)))
