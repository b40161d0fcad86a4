use Rattle.std.proofs.Common.{◌≡◌}
use Rattle.sums.specs.Places.{list_below}
use Rattle.lines_of_flying.specs.Grounds.{place_of_departure}
use Rattle.lines_of_flying.proofs.places.departure_places.Given as goal

abbrev pub invariant-loop-leg : goal.invariant-loop-leg
invariant-loop-leg l = l.places.items ≡ list_below (place_of_departure l.ground) l.leg
