use Rattle.std.proofs.Common.{◌≡◌}
use Rattle.lp_rows.specs.Layout.{concat_below, nodes_of_fleet, starts_in}
use Rattle.lp_rows.proofs.layout.network_nodes.Given as goal

abbrev pub invariant-loop-fleet : goal.invariant-loop-fleet
invariant-loop-fleet l = l.nodes.items ≡ concat_below (nodes_of_fleet l.tables (starts_in l.network)) l.fleet
