use Rattle.plan_text.specs.CsvText.{csv_text}
use Rattle.rotation_report.proofs.PlainText.{written_as_csv}
use Rattle.rotation_report.proofs.laws.rotations_are_written_as_csv.Goals as goal

pub returns : goal.returns
unfolding csv_text
returns c = written_as_csv
