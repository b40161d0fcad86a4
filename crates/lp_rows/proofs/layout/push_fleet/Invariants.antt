use Rattle.std.proofs.Common.{◌≡◌, ◌++◌}
use Rattle.lp_rows.specs.Layout.{concat_below, nodes_at, starts_in}
use Rattle.lp_rows.proofs.layout.push_fleet.Given as goal

abbrev pub invariant-loop-station : goal.invariant-loop-station
invariant-loop-station l = l.nodes.items ≡ l.fn.nodes.items ++ concat_below (nodes_at (starts_in l.network) l.fleet) l.station
