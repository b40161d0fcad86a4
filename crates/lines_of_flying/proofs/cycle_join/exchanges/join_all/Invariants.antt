use Rattle.std.proofs.Common.{◌≤◌, ◌+◌}
use Rattle.lines_of_flying.specs.cycle_join.Labels.{total_of}
use Rattle.lines_of_flying.specs.cycle_join.Meetings.{AreCycles}
use Rattle.lines_of_flying.proofs.cycle_join.exchanges.join_all.Given as goal

abbrev pub invariant-loop : goal.invariant-loop
invariant-loop l = record {
  cycles : AreCycles l.ground l.cycles;
  passes : l.counter + total_of l.cycles.labels.items ≤ total_of l.fn.cycles.labels.items;
}
