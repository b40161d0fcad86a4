use Rattle.std.proofs.Common.{◌≡◌}
use Rattle.sums.specs.Places.{list_below}
use Rattle.fleet_model.specs.Counts.{weights_of}
use Rattle.node_aggregate.specs.island_cut.Zeros.{zeros_of}
use Rattle.plan_rotations.proofs.through_flights.waits.all_zero_minutes.Given as goal

abbrev pub invariant-loop-station : goal.invariant-loop-station
invariant-loop-station l = l.all.items ≡ list_below (zeros_of l.tables (weights_of l.plan) l.fleet) l.station
