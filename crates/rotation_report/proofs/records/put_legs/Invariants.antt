use Rattle.std.proofs.Common.{map, take}
use Rattle.plan_text.specs.CsvText.{HasWritten}
use Rattle.rotation_report.specs.RotationRecords.{listed_row, round_records}
use Rattle.rotation_report.proofs.records.put_legs.Given as goal

abbrev pub invariant-loop-leg : goal.invariant-loop-leg
invariant-loop-leg l = HasWritten l.fn.writer l.writer (round_records l.round.name.now l.round.number.now (map (listed_row l.kind l.tables) (take l.leg-index l.legs)))
