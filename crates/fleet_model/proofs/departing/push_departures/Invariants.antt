use Rattle.std.proofs.Common.{◌≡◌, ◌++◌}
use Rattle.sums.specs.Places.{list_below}
use Rattle.fleet_model.specs.Windows.{at_time}
use Rattle.fleet_model.proofs.departing.push_departures.Given as goal

abbrev pub invariant-loop-slot : goal.invariant-loop-slot
invariant-loop-slot l = l.listed.items ≡ l.fn.listed.items ++ list_below (at_time l.leg) l.slot
