use Rattle.std.proofs.Common.{◌++◌, codes, map, rules}
use Rattle.std.proofs.lemmas.Result.{on_ok_weaker}
use Rattle.fleet_model.specs.Schedule.{fleet_of}
use Rattle.plan_text.specs.CsvText.{HasWritten}
use Rattle.rotation_report.specs.RotationRecords.{fleet_records, pair_row, rotation_rows, round_records, second_round}
use Rattle.plan_text.proofs.CsvWriting.{written_more}
use Rattle.rotation_report.proofs.RowWriting.{rows_more}
use Rattle.rotation_report.proofs.records.put_fleet.Goals as goal

pub returns : goal.returns
unfolding fleet_records
returns c =
    let name = (fleet_of c.args.tables.now c.args.fleet).name in
    let pairs = map (pair_row c.args.tables.now) c.args.made.now.pairs in
    let rows = rotation_rows c.args.tables.now c.args.fleet c.args.visits c.args.made.now.first in
    let one : HasWritten c.args.writer.now c.put_pairs.new.writer (round_records name (codes "1") pairs) = search rules in
    let two : HasWritten c.put_pairs.new.writer c.put_rotation.new.writer (round_records name (codes "1") rows) = search rules in
    on_ok_weaker c.put_second.result (written_more c.args.writer.now c.put_rotation.new.writer c.put_second.new.writer (round_records name (codes "1") (pairs ++ rows))
    (second_round c.args.tables.now c.args.fleet c.args.visits c.args.made.now.second)
    (rows_more name (codes "1") c.args.writer.now c.put_pairs.new.writer c.put_rotation.new.writer pairs rows one two)) c.put_second.ensures
