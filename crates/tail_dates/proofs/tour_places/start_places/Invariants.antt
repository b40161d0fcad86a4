use Rattle.tail_dates.specs.Places.{AreStartPlaces}
use Rattle.tail_dates.proofs.tour_places.start_places.Given as goal

abbrev pub invariant-loop-start : goal.invariant-loop-start
invariant-loop-start l = AreStartPlaces l.tables l.fleet l.tour l.day l.start l.places.items
