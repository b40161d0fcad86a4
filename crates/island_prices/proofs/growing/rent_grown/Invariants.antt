use Rattle.std.proofs.Common.{◌≡◌, ◌*◌}
use Rattle.sums.specs.Below.{sum_below_ℤ}
use Rattle.dual_bound.specs.Sizes.{IsUpTo}
use Rattle.island_prices.specs.Rounds.{round_number}
use Rattle.island_prices.proofs.growing.rent_grown.Given as goal

abbrev pub invariant-loop-round : goal.invariant-loop-round
invariant-loop-round l = record {
  added : l.sum ≡ sum_below_ℤ (round_number l.rounds) l.round;
  size : IsUpTo (3 * l.round) l.sum;
}
