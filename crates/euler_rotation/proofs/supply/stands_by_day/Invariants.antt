use Rattle.std.proofs.Common.{◌≡◌, ◌≤◌, ◌*◌}
use Rattle.sums.specs.Below.{sum_below}
use Rattle.lines_of_flying.specs.ground_turns.Laws.{stand_by_day}
use Rattle.euler_rotation.proofs.supply.stands_by_day.Given as goal

abbrev pub invariant-loop-day : goal.invariant-loop-day
invariant-loop-day l = record {
  added : l.stands ≡ sum_below (stand_by_day l.asked.tables.now l.asked.plan.now l.asked.fleet l.station) l.day;
  few : l.stands ≤ 2000 * l.day;
}
