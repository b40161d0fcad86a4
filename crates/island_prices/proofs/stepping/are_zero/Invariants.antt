use Rattle.std.proofs.Common.{◌≡◌, true, slice_index_or, pos}
use Rattle.island_prices.specs.Steps.{all_zero}
use Rattle.island_prices.proofs.stepping.are_zero.Given as goal

abbrev pub invariant-loop-minute : goal.invariant-loop-minute
invariant-loop-minute l = all_zero (λ m. slice_index_or l.row m (pos 0)) l.minute ≡ true
