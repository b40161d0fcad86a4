use Rattle.std.proofs.Common.{◌≡◌, ◌≤◌, ◌*◌}
use Rattle.sums.specs.Below.{sum_below}
use Rattle.fleet_model.specs.Schedule.{fleet_of}
use Rattle.fleet_model.specs.declared.limits.TheConstants.{MAX_AIRCRAFT}
use Rattle.node_aggregate.proofs.island_cut.spares.aircraft.Given as goal

abbrev pub invariant-loop-fleet : goal.invariant-loop-fleet
invariant-loop-fleet l = record {
  added : l.sum ≡ sum_below (λ f. (fleet_of l.tables f).aircraft) l.fleet;
  few : l.sum ≤ MAX_AIRCRAFT * l.fleet;
}
