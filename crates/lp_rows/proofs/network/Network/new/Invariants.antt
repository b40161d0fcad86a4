use Rattle.std.proofs.Common.{[]}
use Rattle.fleet_model.specs.Kept.{kept_by}
use Rattle.lp_rows.specs.Layout.{HaveNodes}
use Rattle.lp_rows.proofs.Built.{AreBuilt}
use Rattle.lp_rows.proofs.network.Network.new.Given as goal

abbrev pub invariant-loop-fleet : goal.invariant-loop-fleet
invariant-loop-fleet l = AreBuilt (HaveNodes l.tables (kept_by l.kept)) [] l.fleets.items l.fleet
