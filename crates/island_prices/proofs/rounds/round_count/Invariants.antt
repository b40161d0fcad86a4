use Rattle.std.proofs.Common.{◌≡◌}
use Rattle.island_prices.specs.Rounds.{round_count}
use Rattle.island_prices.proofs.rounds.round_count.Given as goal

abbrev pub invariant-loop-station : goal.invariant-loop-station
invariant-loop-station l = l.most ≡ round_count l.moments l.station
