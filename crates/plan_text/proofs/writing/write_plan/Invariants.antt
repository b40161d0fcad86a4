use Rattle.std.proofs.Common.{◌≡◌, ◌∷◌}
use Rattle.plan_text.specs.CsvText.{IsBetweenRecords, csv_text, written_text}
use Rattle.plan_text.specs.Text.{leg_records, plan_header}
use Rattle.plan_text.proofs.writing.write_plan.Given as goal

abbrev pub invariant-loop-leg : goal.invariant-loop-leg
invariant-loop-leg l = record {
  between : IsBetweenRecords l.writer;
  text : written_text l.writer ≡ csv_text (plan_header l.tables ∷ leg_records l.tables l.plan l.leg);
}
