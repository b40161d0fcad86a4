use Rattle.fleet_model.specs.Schedule.{period_of}
use Rattle.island_prices.specs.Paid.{paid_price}
use Rattle.island_prices.proofs.PaidRows.{IsFleetSoFar}
use Rattle.island_prices.proofs.paying.push_fleet.Given as goal

abbrev pub invariant-loop-station : goal.invariant-loop-station
invariant-loop-station l = IsFleetSoFar (period_of l.tables) (paid_price l.paid.before l.paid.rises.now l.paid.rounds.now l.fleet) l.fleet l.fn.steps.items l.steps.items l.station
