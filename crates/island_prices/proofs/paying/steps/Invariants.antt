use Rattle.island_prices.specs.Paid.{paid_price, paid_rent}
use Rattle.island_prices.proofs.PaidRows.{AreFleetsSoFar}
use Rattle.island_prices.proofs.paying.steps.Given as goal

abbrev pub invariant-loop-fleet : goal.invariant-loop-fleet
invariant-loop-fleet l = AreFleetsSoFar l.tables (paid_rent l.paid.before l.paid.rounds.now) (paid_price l.paid.before l.paid.rises.now l.paid.rounds.now) l.steps.items l.fleet
