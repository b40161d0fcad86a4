use Rattle.std.proofs.Common.{◌≡◌, false, slice_index_or, pos}
use Rattle.island_prices.specs.Paid.{beyond_at}
use Rattle.island_prices.proofs.paying.has_beyond.Given as goal

abbrev pub invariant-loop-minute : goal.invariant-loop-minute
invariant-loop-minute l = beyond_at (λ m. slice_index_or l.row m (pos 0)) l.minute ≡ false
