use Rattle.std.proofs.Common.{◌≡◌, ◌++◌, map}
use Rattle.fleet_model.specs.Kept.{kept_by}
use Rattle.lp_rows.specs.Layout.{concat_below, moment_at, nodes_at, starts_in}
use Rattle.lp_rows.proofs.arcs.push_fleet.Given as goal

abbrev pub invariant-loop-station : goal.invariant-loop-station
invariant-loop-station l =
    l.found.items ≡ l.fn.found.items ++ map (moment_at l.tables (kept_by l.kept) (starts_in l.network)) (concat_below (nodes_at (starts_in l.network) l.fleet) l.station)
