use Rattle.std.proofs.Common.{◌≡◌}
use Rattle.tail_dates.proofs.TourPlaces.{places_so_far}
use Rattle.tail_dates.proofs.tour_places.places_of_tour.Given as goal

abbrev pub invariant-loop-turn : goal.invariant-loop-turn
invariant-loop-turn l = l.places.items ≡ places_so_far l.tables l.fleet l.tour l.turn
