use Rattle.std.proofs.Common.{◌≡◌, ◌++◌, ◌∙◌, length, map, ap, rules}
use Rattle.fleet_model.specs.Kept.{kept_by}
use Rattle.node_aggregate.specs.Moments.{moment_of}
use Rattle.sums.specs.Places.{list_below}
use Rattle.lp_rows.specs.Layout.{concat_below, moment_at, nodes_at, starts_in}
use Rattle.lp_rows.proofs.ArcMoments.{moments_there, one_list_more}
use Rattle.lp_rows.proofs.ListsBehind.{ends_at}
use Rattle.lp_rows.proofs.arcs.push_fleet.Goals as goal

pub loop-station-preserved : goal.loop-station-preserved
loop-station-preserved c =
    let t = c.args.tables.now in
    let keeps = kept_by c.args.kept.now in
    let starts = starts_in c.args.network.now in
    let there = c.as_slice.ensures ∙ c.in_ok-there.ensures ∙ ap (λ xs. list_below (moment_of t keeps c.args.fleet c.loop-station.station xs) (length xs)) c.starts-starts.ensures.value
    ∙ moments_there t keeps starts c.args.fleet c.loop-station.station in
    let all : c.extend_from_slice.new.self.items ≡ c.loop-station.found.items ++ c.as_slice.result.now = search rules in
    one_list_more (moment_at t keeps starts) (nodes_at starts c.args.fleet) c.loop-station.station c.args.found.now.items c.loop-station.found.items _ c.loop-station.invariant
    (all ∙ ap (λ xs. c.loop-station.found.items ++ xs) there)

pub returns : goal.returns
returns c =
    let starts = starts_in c.args.network.now in
    c.loop-station.invariant
    ∙ ap (λ n. c.args.found.now.items ++ map (moment_at c.args.tables.now (kept_by c.args.kept.now) starts) (concat_below (nodes_at starts c.args.fleet) n))
    (ends_at c.loop-station.station c.station_count-station-end.result _ c.loop-station.auto.station-end c.loop-station-test.false c.station_count-station-end.ensures)
