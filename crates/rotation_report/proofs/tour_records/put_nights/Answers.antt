use Rattle.std.proofs.Common.{arith, rules}
use Rattle.std.proofs.lemmas.Result.{on_ok_weaker}
use Rattle.lines_of_flying.specs.Lines.{nights_after}
use Rattle.rotation_report.proofs.RowWriting.{nights_written}
use Rattle.rotation_report.proofs.tour_records.put_nights.Goals as goal

pub overflow_sub-waited : goal.overflow_sub-waited
unfolding nights_after
overflow_sub-waited c = omega arith

pub returns : goal.returns
unfolding nights_after
returns c =
    on_ok_weaker c.put_same-2.result (λ waited. nights_written c.args.tables.now c.args.fleet c.args.tour.now c.args.place c.args.round.name.now c.args.round.number.now
    c.args.writer.now c.put_same.new.writer c.put_same-2.new.writer _ _ _ _ c.in_ok-put_same.ensures waited
    (search rules) (omega arith) (search rules) (search rules)) c.put_same-2.ensures
