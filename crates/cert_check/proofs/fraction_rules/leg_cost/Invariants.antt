use Rattle.std.proofs.Common.{◌≡◌, ◌*◌}
use Rattle.sums.specs.Below.{sum_below_ℤ}
use Rattle.fleet_model.specs.Mixed.{weighted_cost}
use Rattle.dual_bound.specs.Sizes.{IsUpTo}
use Rattle.dual_bound.specs.Fractions.{parts_in}
use Rattle.cert_check.proofs.fraction_rules.leg_cost.Given as goal

abbrev pub invariant-loop-choice : goal.invariant-loop-choice
invariant-loop-choice l = record {
  added : l.sum ≡ sum_below_ℤ (weighted_cost l.tables (parts_in l.mixed) l.leg) l.choice;
  size : IsUpTo (3 * l.choice) l.sum;
}
