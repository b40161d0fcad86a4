use Rattle.std.proofs.Common.{◌≡◌, ◌*◌}
use Rattle.sums.specs.Below.{sum_below_ℤ}
use Rattle.dual_bound.specs.Sizes.{IsUpTo}
use Rattle.dual_bound.specs.Worth.{charges_of}
use Rattle.dual_bound.proofs.worth_less.all_charges.Given as goal

abbrev pub invariant-loop-station : goal.invariant-loop-station
invariant-loop-station l = record {
  added : l.sum ≡ sum_below_ℤ (charges_of l.tables l.prices) l.station;
  size : IsUpTo (70000 * l.station) l.sum;
}
