use Rattle.std.proofs.Common.{◌≡◌}
use Rattle.sums.specs.Places.{list_below}
use Rattle.fleet_model.specs.Schedule.{stations_in}
use Rattle.island_prices.specs.Rounds.{number_of_round}
use Rattle.island_prices.proofs.rounds.numbers.Given as goal

abbrev pub invariant-loop-round : goal.invariant-loop-round
invariant-loop-round l = l.numbers.items ≡ list_below (number_of_round l.rises l.moments (stations_in l.tables)) l.round
