use Rattle.std.proofs.Common.{◌≡◌, ◌≤◌, is_some}
use Rattle.sums.specs.Below.{count_below}
use Rattle.fleet_model.specs.Schedule.{parking_of}
use Rattle.node_aggregate.proofs.island_cut.plain_day.limits.Given as goal

abbrev pub invariant-loop-station : goal.invariant-loop-station
invariant-loop-station l = record {
  counted : l.count ≡ count_below (λ s. is_some (parking_of l.tables s)) l.station;
  few : l.count ≤ l.station;
}
