use Rattle.std.proofs.Common.{◌≡◌, ◌++◌, length, slice_index_or, pos}
use Rattle.island_prices.specs.Steps.{steps_below}
use Rattle.island_prices.proofs.stepping.push_steps.Given as goal

abbrev pub invariant-loop-minute : goal.invariant-loop-minute
invariant-loop-minute l = l.steps.items ≡ l.fn.steps.items ++ steps_below (length l.row) (λ m. slice_index_or l.row m (pos 0)) l.fleet l.station l.minute
