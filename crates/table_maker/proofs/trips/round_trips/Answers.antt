use Rattle.table_maker.specs.Trips.{state_before}
use Rattle.table_maker.proofs.TripLists.{state_grown, trips_grown}
use Rattle.table_maker.proofs.trips.round_trips.Goals as goal

pub loop-trip-init : goal.loop-trip-init
unfolding state_before
loop-trip-init c = (c.new-made.ensures.items, c.new-draws.ensures)

pub loop-trip-preserved : goal.loop-trip-preserved
loop-trip-preserved c =
    let (so_far, at) = c.loop-trip.invariant in (
      trips_grown c.args.number c.args.spokes c.loop-trip._trip c.loop-trip.draws c.loop-trip.made.items _ c.next_round_trip.result so_far at c.next_round_trip.ensures.trip c.in_ok-push.ensures.items,
      state_grown c.args.number c.loop-trip._trip c.loop-trip.draws _ at c.next_round_trip.ensures.drawn,
    )
