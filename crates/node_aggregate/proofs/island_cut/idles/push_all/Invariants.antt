use Rattle.std.proofs.Common.{◌≡◌, ◌++◌, map, take}
use Rattle.node_aggregate.specs.island_cut.Islands.{idle_at}
use Rattle.node_aggregate.proofs.island_cut.idles.push_all.Given as goal

abbrev pub invariant-loop-minute : goal.invariant-loop-minute
invariant-loop-minute l = l.idles.items ≡ l.fn.idles.items ++ map (idle_at l.station) (take l.minute-index l.minutes)
