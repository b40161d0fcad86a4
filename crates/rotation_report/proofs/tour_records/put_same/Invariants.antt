use Rattle.std.proofs.Common.{codes, replicate}
use Rattle.plan_text.specs.CsvText.{HasWritten}
use Rattle.rotation_report.specs.RotationRecords.{round_records}
use Rattle.rotation_report.proofs.tour_records.put_same.Given as goal

abbrev pub invariant-loop : goal.invariant-loop
invariant-loop l = HasWritten l.fn.writer l.writer (round_records l.round.name.now l.round.number.now (replicate l.counter (record { kind = codes "night"; a = l.a; b = l.b })))
