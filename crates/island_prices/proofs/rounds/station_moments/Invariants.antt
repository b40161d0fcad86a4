use Rattle.std.proofs.Common.{◌≡◌}
use Rattle.sums.specs.Places.{list_below}
use Rattle.island_prices.specs.Rounds.{rise_moments}
use Rattle.island_prices.proofs.rounds.station_moments.Given as goal

abbrev pub invariant-loop-station : goal.invariant-loop-station
invariant-loop-station l = l.stations.items ≡ list_below (rise_moments l.tables l.rises) l.station
