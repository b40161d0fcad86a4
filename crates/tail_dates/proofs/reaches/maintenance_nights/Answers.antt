use Rattle.tail_dates.proofs.Nights.{nights_more}
use Rattle.tail_dates.proofs.reaches.maintenance_nights.Goals as goal

pub loop-place-preserved : goal.loop-place-preserved
loop-place-preserved c = nights_more c.args.tables.now c.args.fleet c.args.tour.now c.loop-place.place c.loop-place.nights.items c.push_nights.new.nights.items c.loop-place.invariant c.in_ok-push_nights.ensures
