use Rattle.std.proofs.Common.{◌≡◌}
use Rattle.sums.specs.Places.{list_below}
use Rattle.node_aggregate.specs.island_cut.Islands.{idles_of}
use Rattle.island_prices.specs.Least.{least_in}
use Rattle.island_prices.proofs.least.least_idle.Given as goal

abbrev pub invariant-loop-station : goal.invariant-loop-station
invariant-loop-station l = l.least.items ≡ list_below (least_in (idles_of l.tables)) l.station
