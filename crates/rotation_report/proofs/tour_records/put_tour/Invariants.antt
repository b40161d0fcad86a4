use Rattle.plan_text.specs.CsvText.{HasWritten}
use Rattle.rotation_report.specs.RotationRecords.{begun_tour_rows, round_records}
use Rattle.rotation_report.proofs.tour_records.put_tour.Given as goal

abbrev pub invariant-loop-place : goal.invariant-loop-place
invariant-loop-place l = HasWritten l.fn.writer l.writer (round_records l.round.name.now l.round.number.now (begun_tour_rows l.tables l.fleet l.tour l.place))
