use Rattle.std.proofs.Common.{◌≡◌}
use Rattle.sums.specs.Places.{list_below}
use Rattle.island_prices.specs.Paid.{paid_price}
use Rattle.island_prices.proofs.paying.row.Given as goal

abbrev pub invariant-loop-minute : goal.invariant-loop-minute
invariant-loop-minute l = l.row.items ≡ list_below (paid_price l.paid.before l.paid.rises.now l.paid.rounds.now l.fleet l.station) l.minute
