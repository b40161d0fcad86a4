use Rattle.std.proofs.Common.{◌≡◌, pos, ◌≤ℤ◌}
use Rattle.dual_bound.specs.Sizes.{IsUpTo}
use Rattle.island_prices.specs.Rounds.{greatest_below, rise_taken}
use Rattle.island_prices.proofs.rounds.number.Given as goal

abbrev pub invariant-loop-station : goal.invariant-loop-station
invariant-loop-station l = record {
  greatest : l.most ≡ greatest_below (rise_taken l.rises l.moments l.round) l.station;
  some : pos 0 ≤ℤ l.most;
  size : IsUpTo 3 l.most;
}
