use Rattle.std.proofs.Common.{◌≡◌, ◌*◌, ◌≤◌}
use Rattle.sums.specs.Below.{sum_below}
use Rattle.fleet_model.specs.Counts.{weights_of}
use Rattle.fleet_model.specs.Schedule.{day_end}
use Rattle.fleet_model.specs.Use.{stand_of}
use Rattle.plan_judge.proofs.crowds.parked.Given as goal

abbrev pub invariant-loop-fleet : goal.invariant-loop-fleet
invariant-loop-fleet l = record {
  added : l.sum ≡ sum_below (λ f. stand_of l.tables (weights_of l.plan) f l.station (day_end l.day)) l.fleet;
  few : l.sum ≤ 2000 * l.fleet;
}
