use Rattle.std.proofs.Common.{◌≡◌, ◌++◌}
use Rattle.sums.specs.Places.{list_below}
use Rattle.lp_rows.specs.Layout.{node_of_place}
use Rattle.lp_rows.proofs.layout.push_station.Given as goal

abbrev pub invariant-loop-place : goal.invariant-loop-place
invariant-loop-place l = l.nodes.items ≡ l.fn.nodes.items ++ list_below (node_of_place l.fleet l.station) l.place
