use Rattle.std.proofs.Common.{◌≡◌}
use Rattle.sums.specs.Places.{list_below}
use Rattle.fleet_model.specs.Kept.{kept_by}
use Rattle.node_aggregate.specs.Moments.{moment_of}
use Rattle.node_aggregate.proofs.arcs.moments.Given as goal

abbrev pub invariant-loop-place : goal.invariant-loop-place
invariant-loop-place l = l.moments.items ≡ list_below (moment_of l.tables (kept_by l.kept) l.fleet l.station l.starts) l.place
