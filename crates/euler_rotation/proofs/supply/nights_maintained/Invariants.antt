use Rattle.std.proofs.Common.{◌≡◌, ◌≤◌, ◌*◌}
use Rattle.sums.specs.Below.{sum_below}
use Rattle.lines_of_flying.specs.ground_turns.Laws.{maintained_at}
use Rattle.euler_rotation.proofs.supply.nights_maintained.Given as goal

abbrev pub invariant-loop-station : goal.invariant-loop-station
invariant-loop-station l = record {
  added : l.nights ≡ sum_below (maintained_at l.asked.tables.now l.asked.plan.now l.asked.fleet) l.station;
  few : l.nights ≤ 14000 * l.station;
}
