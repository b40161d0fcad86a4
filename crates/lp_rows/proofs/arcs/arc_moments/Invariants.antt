use Rattle.std.proofs.Common.{◌≡◌, map}
use Rattle.fleet_model.specs.Kept.{kept_by}
use Rattle.lp_rows.specs.Layout.{concat_below, moment_at, nodes_of_fleet, starts_in}
use Rattle.lp_rows.proofs.arcs.arc_moments.Given as goal

abbrev pub invariant-loop-fleet : goal.invariant-loop-fleet
invariant-loop-fleet l = l.found.items ≡ map (moment_at l.tables (kept_by l.kept) (starts_in l.network)) (concat_below (nodes_of_fleet l.tables (starts_in l.network)) l.fleet)
