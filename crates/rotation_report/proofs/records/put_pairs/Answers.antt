use Rattle.std.proofs.Common.{◌∷◌, [], rules}
use Rattle.lines_of_flying.specs.ground_turns.Maps.{no_turn, turn_at}
use Rattle.plan_text.specs.CsvText.{HasWritten}
use Rattle.rotation_report.specs.RotationRecords.{pair_row, round_records}
use Rattle.plan_text.proofs.CsvWriting.{written_none}
use Rattle.rotation_report.proofs.RowWriting.{row_more}
use Rattle.rotation_report.proofs.records.put_pairs.Goals as goal

pub loop-pair-init : goal.loop-pair-init
loop-pair-init c = written_none _ c.requires.between

pub loop-pair-preserved : goal.loop-pair-preserved
loop-pair-preserved c =
    let row = pair_row c.args.tables.now in
    let one : HasWritten c.loop-pair.writer c.put_row.new.writer (round_records c.args.round.name.now c.args.round.number.now (row (turn_at c.args.pairs.now c.loop-pair.pair-index) ∷ [])) = search rules in
    row_more row c.args.pairs.now c.args.round.name.now c.args.round.number.now c.args.writer.now c.loop-pair.writer c.put_row.new.writer c.loop-pair.pair-index no_turn c.loop-pair-test.true c.loop-pair.invariant one
