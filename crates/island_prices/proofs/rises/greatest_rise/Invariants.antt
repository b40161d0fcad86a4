use Rattle.std.proofs.Common.{◌≡◌, pos, ◌≤ℤ◌}
use Rattle.dual_bound.specs.Sizes.{IsUpTo}
use Rattle.island_prices.specs.Rounds.{greatest_below, rise_where}
use Rattle.island_prices.proofs.rises.greatest_rise.Given as goal

abbrev pub invariant-loop-place : goal.invariant-loop-place
invariant-loop-place l = record {
  greatest : l.most ≡ greatest_below (rise_where l.rises l.station l.moment) l.place;
  some : pos 0 ≤ℤ l.most;
  size : IsUpTo 3 l.most;
}
