use Rattle.std.proofs.Common.{◌≡◌, ◌≤◌, ◌*◌}
use Rattle.sums.specs.Below.{sum_below}
use Rattle.plan_rotations.specs.through_flights.Chosen.{chosen_value}
use Rattle.plan_rotations.specs.declared.through_flights.worths.TheConstants.{MAX_VALUE}
use Rattle.plan_rotations.proofs.through_flights.choosing.chosen_value.Given as goal

abbrev pub invariant-loop-leg : goal.invariant-loop-leg
invariant-loop-leg l = record {
  sum : l.value ≡ sum_below (chosen_value l.worths l.columns) l.leg;
  small : l.value ≤ l.leg * MAX_VALUE;
}
