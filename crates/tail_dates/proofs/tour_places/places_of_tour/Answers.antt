use Rattle.tail_dates.proofs.TourPlaces.{places_more}
use Rattle.tail_dates.proofs.tour_places.places_of_tour.Goals as goal

pub loop-turn-preserved : goal.loop-turn-preserved
loop-turn-preserved c = places_more c.args.tables.now c.args.fleet c.args.tour.now c.loop-turn.turn c.loop-turn.places.items c.push_turn.new.places.items c.loop-turn.invariant c.in_ok-push_turn.ensures
