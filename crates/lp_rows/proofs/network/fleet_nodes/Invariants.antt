use Rattle.std.proofs.Common.{[]}
use Rattle.fleet_model.specs.Kept.{kept_by}
use Rattle.node_aggregate.specs.Nodes.{AreNodesAt}
use Rattle.lp_rows.proofs.Built.{AreBuilt}
use Rattle.lp_rows.proofs.network.fleet_nodes.Given as goal

abbrev pub invariant-loop-station : goal.invariant-loop-station
invariant-loop-station l = AreBuilt (AreNodesAt l.tables (kept_by l.kept) l.fleet) [] l.stations.items l.station
