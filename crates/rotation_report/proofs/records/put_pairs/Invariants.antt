use Rattle.std.proofs.Common.{map, take}
use Rattle.plan_text.specs.CsvText.{HasWritten}
use Rattle.rotation_report.specs.RotationRecords.{pair_row, round_records}
use Rattle.rotation_report.proofs.records.put_pairs.Given as goal

abbrev pub invariant-loop-pair : goal.invariant-loop-pair
invariant-loop-pair l = HasWritten l.fn.writer l.writer (round_records l.round.name.now l.round.number.now (map (pair_row l.tables) (take l.pair-index l.pairs)))
