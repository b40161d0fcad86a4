use Rattle.std.proofs.Common.{◌≡◌, ◌≤◌, ◌*◌}
use Rattle.sums.specs.Below.{sum_below}
use Rattle.fleet_model.specs.Schedule.{leg_on}
use Rattle.dual_bound.specs.Prices.{max_scale}
use Rattle.dual_bound.specs.Fractions.{parts_in}
use Rattle.cert_check.proofs.mixed_counts.weight_on.Given as goal

abbrev pub invariant-loop-choice : goal.invariant-loop-choice
invariant-loop-choice l = record {
  added : l.sum ≡ sum_below (λ c. parts_in l.mixed (leg_on l.leg c)) l.choice;
  few : l.sum ≤ max_scale * l.choice;
}
