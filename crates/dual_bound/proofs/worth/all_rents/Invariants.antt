use Rattle.std.proofs.Common.{◌≡◌, ◌*◌}
use Rattle.sums.specs.Below.{sum_below_ℤ}
use Rattle.fleet_model.specs.declared.limits.TheConstants.{MAX_AIRCRAFT}
use Rattle.dual_bound.specs.Sizes.{IsUpTo}
use Rattle.dual_bound.specs.Worth.{rents_of}
use Rattle.dual_bound.proofs.worth.all_rents.Given as goal

abbrev pub invariant-loop-fleet : goal.invariant-loop-fleet
invariant-loop-fleet l = record {
  added : l.sum ≡ sum_below_ℤ (rents_of l.tables l.prices) l.fleet;
  size : IsUpTo (MAX_AIRCRAFT * l.fleet) l.sum;
}
