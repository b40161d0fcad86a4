use Rattle.std.proofs.Common.{◌∙◌, subst, sym}
use Rattle.sums.proofs.Places.{list_below-push}
use Rattle.fleet_model.specs.Kept.{kept_by}
use Rattle.node_aggregate.specs.timeline_net.Events.{AreEvents}
use Rattle.node_aggregate.proofs.Starts.{end_within}
use Rattle.node_aggregate.specs.Moments.{moment_of}
use Rattle.node_aggregate.proofs.MomentsFound.{idles_rise_in}
use Rattle.node_aggregate.proofs.arcs.moments.Goals as goal

pub moment-requires-clause-end : goal.moment-requires-clause-end
moment-requires-clause-end c =
    end_within c.args.tables.now (kept_by c.args.kept.now) c.args.fleet c.args.station c.args.starts.now c.requires.nodes c.loop-place.place

pub moment-requires-clause-rise : goal.moment-requires-clause-rise
moment-requires-clause-rise c = idles_rise_in c.args.tables.now (kept_by c.args.kept.now) c.args.idle.now c.requires.idle

pub loop-place-preserved : goal.loop-place-preserved
loop-place-preserved c =
    let t = c.args.tables.now in
    let keeps = kept_by c.args.kept.now in
    let happen : AreEvents t keeps c.args.fleet c.args.station c.deref.result.now = subst (AreEvents t keeps c.args.fleet c.args.station) (sym c.deref.ensures.value) c.in_ok-happening.ensures in
    c.in_ok-push.ensures.items ∙ list_below-push (moment_of t keeps c.args.fleet c.args.station c.args.starts.now) c.loop-place.place c.loop-place.moments.items c.moment.result c.loop-place.invariant
    (c.moment.ensures keeps c.args.fleet c.requires.station happen c.requires.idle)
