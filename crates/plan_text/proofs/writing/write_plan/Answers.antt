use Rattle.std.proofs.Common.{◌≡◌, ◌∷◌, [], ◌∙◌, sym, rules}
use Rattle.plan_text.specs.CsvText.{HasWritten, csv_text, written_text}
use Rattle.plan_text.specs.Text.{leg_record, plan_records}
use Rattle.plan_text.proofs.CsvWriting.{leg_more}
use Rattle.plan_text.proofs.Lines.{written_as_csv}
use Rattle.plan_text.proofs.writing.write_plan.Goals as goal

pub loop-leg-preserved : goal.loop-leg-preserved
loop-leg-preserved c =
    let one : HasWritten c.loop-leg.writer c.put_pair.new.writer (leg_record c.args.tables.now c.args.plan.now c.loop-leg.leg ∷ []) = search rules in
    record {
      between = one.between;
      text = leg_more c.args.tables.now c.args.plan.now c.loop-leg.leg c.loop-leg.writer c.put_pair.new.writer c.loop-leg.invariant.text one;
    }

pub returns-in-Ok : goal.returns-in-Ok
returns-in-Ok c =
    let all : written_text c.loop-leg.writer ≡ csv_text (plan_records c.args.tables.now c.args.plan.now) = search rules in
    c.in-Ok.ensures.ok ∙ all ∙ sym (written_as_csv c.args.tables.now c.args.plan.now c.requires)
