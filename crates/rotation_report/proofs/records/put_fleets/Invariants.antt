use Rattle.std.proofs.Common.{◌≡◌, ◌∷◌}
use Rattle.plan_text.specs.CsvText.{IsBetweenRecords, csv_text, written_text}
use Rattle.rotation_report.specs.RotationRecords.{fleets_records, rotation_header}
use Rattle.rotation_report.proofs.records.put_fleets.Given as goal

abbrev pub invariant-loop-fleet : goal.invariant-loop-fleet
invariant-loop-fleet l = record {
  between : IsBetweenRecords l.writer;
  text : written_text l.writer ≡ csv_text (rotation_header ∷ fleets_records l.tables l.visits l.rotations l.fleet);
}
