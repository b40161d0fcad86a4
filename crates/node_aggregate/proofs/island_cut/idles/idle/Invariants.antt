use Rattle.std.proofs.Common.{◌≡◌}
use Rattle.node_aggregate.specs.island_cut.Islands.{idles_below}
use Rattle.node_aggregate.proofs.island_cut.idles.idle.Given as goal

abbrev pub invariant-loop-station : goal.invariant-loop-station
invariant-loop-station l = l.idles.items ≡ idles_below l.tables l.station
