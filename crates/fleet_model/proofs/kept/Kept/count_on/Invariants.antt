use Rattle.std.proofs.Common.{◌≡◌, ◌≤◌}
use Rattle.sums.specs.Below.{count_below}
use Rattle.fleet_model.specs.Kept.{kept_by}
use Rattle.fleet_model.specs.Schedule.{leg_on}
use Rattle.fleet_model.proofs.kept.Kept.count_on.Given as goal

abbrev pub invariant-loop-fleet : goal.invariant-loop-fleet
invariant-loop-fleet l = record {
  value : l.count ≡ count_below (λ f. kept_by l.self (leg_on l.leg f)) l.fleet;
  few : l.count ≤ l.fleet;
}
