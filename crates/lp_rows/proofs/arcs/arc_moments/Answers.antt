use Rattle.std.proofs.Common.{◌∙◌, [], map, ap}
use Rattle.fleet_model.specs.Kept.{kept_by}
use Rattle.lp_rows.specs.Layout.{concat_below, moment_at, nodes_of_fleet, starts_in}
use Rattle.lp_rows.proofs.ArcMoments.{one_list_more}
use Rattle.lp_rows.proofs.ListsBehind.{ends_at}
use Rattle.lp_rows.proofs.arcs.arc_moments.Goals as goal

pub loop-fleet-preserved : goal.loop-fleet-preserved
loop-fleet-preserved c =
    let starts = starts_in c.args.network.now in
    one_list_more (moment_at c.args.tables.now (kept_by c.args.kept.now) starts) (nodes_of_fleet c.args.tables.now starts) c.loop-fleet.fleet [] c.loop-fleet.found.items _ c.loop-fleet.invariant c.in_ok-push_fleet.ensures

pub returns : goal.returns
returns c =
    let starts = starts_in c.args.network.now in
    c.loop-fleet.invariant
    ∙ ap (λ n. map (moment_at c.args.tables.now (kept_by c.args.kept.now) starts) (concat_below (nodes_of_fleet c.args.tables.now starts) n))
    (ends_at c.loop-fleet.fleet c.fleet_count-fleet-end.result _ c.loop-fleet.auto.fleet-end c.loop-fleet-test.false c.fleet_count-fleet-end.ensures)
