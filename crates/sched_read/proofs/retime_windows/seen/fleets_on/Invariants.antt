use Rattle.std.proofs.Common.{◌≡◌, ◌≤◌, is_some}
use Rattle.fleet_model.specs.Costs.{cost_in}
use Rattle.sums.specs.Below.{count_below}
use Rattle.sched_read.proofs.retime_windows.seen.fleets_on.Given as goal

abbrev pub invariant-loop-fleet : goal.invariant-loop-fleet
invariant-loop-fleet l = record {
  value : l.count ≡ count_below (λ f. is_some (cost_in l.tables.costs l.leg f)) l.fleet;
  few : l.count ≤ l.fleet;
}
