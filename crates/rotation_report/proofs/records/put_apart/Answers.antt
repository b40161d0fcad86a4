use Rattle.std.proofs.Common.{◌∷◌, [], codes, length, map, subst}
use Rattle.std.specs.Fmt.{decimal}
use Rattle.std.proofs.lemmas.Result.{on_ok_weaker}
use Rattle.plan_text.specs.CsvText.{HasWritten}
use Rattle.rotation_report.specs.RotationRecords.{Row, listed_row, round_records}
use Rattle.rotation_report.proofs.RowWriting.{rows_more, zero_digit}
use Rattle.rotation_report.proofs.records.put_apart.Goals as goal

pub returns : goal.returns
returns c =
    let row : Row = record { kind = codes "apart"; a = decimal (length c.args.legs.now); b = codes "0" } in
    let name = c.args.round.name.now in
    let number = c.args.round.number.now in
    let one : HasWritten c.args.writer.now c.put_numbers.new.writer (round_records name number (row ∷ [])) =
    subst (λ none. HasWritten c.args.writer.now c.put_numbers.new.writer (round_records name number (record { kind = codes "apart"; a = decimal (length c.args.legs.now); b = none } ∷ []))) zero_digit c.in_ok-put_numbers.ensures in
    on_ok_weaker c.put_legs.result (rows_more name number c.args.writer.now c.put_numbers.new.writer c.put_legs.new.writer
    (row ∷ []) (map (listed_row (codes "leg") c.args.tables.now) c.args.legs.now) one) c.put_legs.ensures
