use Rattle.std.proofs.Common.{◌≡◌, ◌*◌}
use Rattle.sums.specs.Below.{sum_below_ℤ}
use Rattle.fleet_model.specs.Mixed.{weighted_cost}
use Rattle.fleet_model.specs.Schedule.{choices_in}
use Rattle.fleet_model.specs.declared.limits.TheConstants.{MAX_CHOICES}
use Rattle.dual_bound.specs.Sizes.{IsUpTo}
use Rattle.dual_bound.specs.Fractions.{parts_in}
use Rattle.cert_check.proofs.fraction_rules.cost_of.Given as goal

abbrev pub invariant-loop-leg : goal.invariant-loop-leg
invariant-loop-leg l = record {
  added : l.sum ≡ sum_below_ℤ (λ m. sum_below_ℤ (weighted_cost l.tables (parts_in l.mixed) m) (choices_in l.tables m)) l.leg;
  size : IsUpTo (3 * MAX_CHOICES * l.leg) l.sum;
}
