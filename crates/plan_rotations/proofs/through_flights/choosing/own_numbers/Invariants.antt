use Rattle.std.proofs.Common.{◌≡◌}
use Rattle.sums.specs.Places.{list_below}
use Rattle.plan_rotations.specs.through_flights.Chosen.{own_number}
use Rattle.plan_rotations.proofs.through_flights.choosing.own_numbers.Given as goal

abbrev pub invariant-loop-leg : goal.invariant-loop-leg
invariant-loop-leg l = l.numbers.items ≡ list_below (own_number l.plan l.fleet l.duals l.less) l.leg
