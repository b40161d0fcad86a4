use Rattle.rotation_report.proofs.RowWriting.{tour_more}
use Rattle.rotation_report.proofs.tour_records.put_tour.Goals as goal

pub loop-place-preserved : goal.loop-place-preserved
loop-place-preserved c =
    tour_more c.args.tables.now c.args.fleet c.args.tour.now c.loop-place.place c.args.round.name.now c.args.round.number.now
    c.args.writer.now c.loop-place.writer c.put_leg.new.writer c.put_nights.new.writer c.loop-place.invariant c.in_ok-put_leg.ensures c.in_ok-put_nights.ensures
