use Rattle.std.proofs.Common.{◌≡◌}
use Rattle.fleet_model.specs.Windows.{departures_below}
use Rattle.fleet_model.proofs.departing.departures_of.Given as goal

abbrev pub invariant-loop-leg : goal.invariant-loop-leg
invariant-loop-leg l = l.listed.items ≡ departures_below l.legs l.leg
