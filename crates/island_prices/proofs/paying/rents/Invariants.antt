use Rattle.std.proofs.Common.{◌≡◌}
use Rattle.sums.specs.Places.{list_below}
use Rattle.island_prices.specs.Paid.{paid_rent}
use Rattle.island_prices.proofs.paying.rents.Given as goal

abbrev pub invariant-loop-fleet : goal.invariant-loop-fleet
invariant-loop-fleet l = l.rents.items ≡ list_below (paid_rent l.paid.before l.paid.rounds.now) l.fleet
