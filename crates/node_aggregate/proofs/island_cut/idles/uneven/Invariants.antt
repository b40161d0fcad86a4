use Rattle.std.proofs.Common.{◌≡◌, ◌≤◌}
use Rattle.sums.specs.Below.{count_below}
use Rattle.fleet_model.specs.Counts.{choice_at}
use Rattle.node_aggregate.specs.island_cut.Islands.{is_uneven}
use Rattle.node_aggregate.specs.island_cut.Spare.{joined_flights}
use Rattle.node_aggregate.proofs.island_cut.idles.uneven.Given as goal

abbrev pub invariant-loop-station : goal.invariant-loop-station
invariant-loop-station l = record {
  counted : l.count ≡ count_below (is_uneven l.tables (joined_flights l.tables (choice_at l.plan))) l.station;
  few : l.count ≤ l.station;
}
