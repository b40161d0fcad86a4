use Rattle.std.proofs.Common.{◌∷◌, [], get_or, rules}
use Rattle.plan_text.specs.CsvText.{HasWritten}
use Rattle.rotation_report.specs.RotationRecords.{listed_row, round_records}
use Rattle.plan_text.proofs.CsvWriting.{written_none}
use Rattle.rotation_report.proofs.RowWriting.{row_more}
use Rattle.rotation_report.proofs.records.put_legs.Goals as goal

pub loop-leg-init : goal.loop-leg-init
loop-leg-init c = written_none _ c.requires.between

pub loop-leg-preserved : goal.loop-leg-preserved
loop-leg-preserved c =
    let row = listed_row c.args.kind.now c.args.tables.now in
    let one : HasWritten c.loop-leg.writer c.put_row.new.writer (round_records c.args.round.name.now c.args.round.number.now (row (get_or c.args.legs.now c.loop-leg.leg-index 0) ∷ [])) = search rules in
    row_more row c.args.legs.now c.args.round.name.now c.args.round.number.now c.args.writer.now c.loop-leg.writer c.put_row.new.writer c.loop-leg.leg-index 0 c.loop-leg-test.true c.loop-leg.invariant one
