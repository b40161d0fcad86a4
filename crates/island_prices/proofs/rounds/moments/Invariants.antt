use Rattle.std.proofs.Common.{◌≡◌}
use Rattle.island_prices.specs.Rounds.{moments_below}
use Rattle.island_prices.proofs.rounds.moments.Given as goal

abbrev pub invariant-loop-minute : goal.invariant-loop-minute
invariant-loop-minute l = l.moments.items ≡ moments_below l.rises l.station l.minute
