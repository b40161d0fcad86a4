use Rattle.std.proofs.Common.{◌≡◌, ◌*◌}
use Rattle.sums.specs.Below.{sum_below_ℤ}
use Rattle.fleet_model.specs.Kept.{kept_by}
use Rattle.dual_bound.specs.Sizes.{IsUpTo}
use Rattle.dual_bound.specs.Worth.{leg_worth}
use Rattle.dual_bound.proofs.worth.legs_worth.Given as goal

abbrev pub invariant-loop-leg : goal.invariant-loop-leg
invariant-loop-leg l = record {
  added : l.sum ≡ sum_below_ℤ (leg_worth l.tables (kept_by l.kept) l.prices l.k) l.leg;
  size : IsUpTo (7 * l.leg) l.sum;
}
