use Rattle.std.proofs.Common.{◌∷◌, ◌++◌, [], codes, length, map}
use Rattle.std.specs.Fmt.{decimal}
use Rattle.std.proofs.lemmas.Result.{on_ok_weaker}
use Rattle.rotation_report.specs.RotationRecords.{Row, listed_row}
use Rattle.rotation_report.proofs.RowWriting.{rows_more}
use Rattle.rotation_report.proofs.records.put_spent.Goals as goal

pub returns : goal.returns
returns c =
    let row : Row = record { kind = codes "visits"; a = decimal c.args.visits; b = decimal (length c.args.prefix.now) } in
    let order = map (listed_row (codes "order") c.args.tables.now) c.args.order.now in
    let prefix = map (listed_row (codes "leg") c.args.tables.now) c.args.prefix.now in
    let name = c.args.round.name.now in
    let number = c.args.round.number.now in
    on_ok_weaker c.put_legs-2.result (λ last. rows_more name number c.args.writer.now c.put_numbers.new.writer c.put_legs-2.new.writer (row ∷ []) (order ++ prefix) c.in_ok-put_numbers.ensures
    (rows_more name number c.put_numbers.new.writer c.put_legs.new.writer c.put_legs-2.new.writer order prefix c.in_ok-put_legs.ensures last)) c.put_legs-2.ensures
