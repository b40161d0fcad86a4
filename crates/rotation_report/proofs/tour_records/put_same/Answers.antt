use Rattle.std.proofs.Common.{◌∷◌, [], codes, replicate, subst}
use Rattle.std.proofs.lemmas.List.{replicate_more}
use Rattle.plan_text.specs.CsvText.{HasWritten}
use Rattle.rotation_report.specs.RotationRecords.{Row, round_records}
use Rattle.plan_text.proofs.CsvWriting.{written_none}
use Rattle.rotation_report.proofs.RowWriting.{rows_more}
use Rattle.rotation_report.proofs.tour_records.put_same.Goals as goal

pub loop-init : goal.loop-init
loop-init c = written_none _ c.requires.between

pub loop-preserved : goal.loop-preserved
loop-preserved c =
    let row : Row = record { kind = codes "night"; a = c.args.a.now; b = c.args.b.now } in
    subst (λ rows. HasWritten c.args.writer.now c.put_row.new.writer (round_records c.args.round.name.now c.args.round.number.now rows)) (replicate_more c.loop.counter row)
    (rows_more c.args.round.name.now c.args.round.number.now c.args.writer.now c.loop.writer c.put_row.new.writer (replicate c.loop.counter row) (row ∷ []) c.loop.invariant c.in_ok-put_row.ensures)
