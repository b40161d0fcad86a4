use Rattle.std.proofs.Common.{◌≡◌, ◌*◌}
use Rattle.sums.specs.Below.{sum_below_ℤ}
use Rattle.dual_bound.specs.Sizes.{IsUpTo}
use Rattle.island_prices.specs.Rises.{shift_at}
use Rattle.island_prices.proofs.rises.shift_by.Given as goal

abbrev pub invariant-loop-place : goal.invariant-loop-place
invariant-loop-place l = record {
  added : l.sum ≡ sum_below_ℤ (shift_at l.rises l.fleet l.station l.minute) l.place;
  size : IsUpTo (3 * l.place) l.sum;
}
