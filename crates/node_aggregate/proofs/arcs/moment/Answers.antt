use Rattle.std.proofs.Common.{◌≡◌, ◌+◌, length, slice_index, ap, ◌∙◌, sym, arith}
use Rattle.fleet_model.specs.Schedule.{period_of}
use Rattle.fleet_model.proofs.PeriodMinutes.{at_most_week}
use Rattle.node_aggregate.specs.EventMinutes.{IsLastAmong}
use Rattle.node_aggregate.specs.KeptIdles.{idle_in}
use Rattle.node_aggregate.specs.Moments.{moment_in_node}
use Rattle.node_aggregate.proofs.MomentsFound.{in_node_found, lists_station, moment_alone, moment_first, moment_second, round_found}
use Rattle.node_aggregate.proofs.arcs.moment.Goals as goal
use Rattle.node_aggregate.proofs.arcs.moment.Goals.{then-is_some-via-then-is_some, then-is_some-via-else-is_some+then-place-starts}

pub overflow_add-until : goal.overflow_add-until
overflow_add-until c = omega (arith, c.node_end-until.ensures, c.requires.end, at_most_week c.args.tables.now)

pub returns-then-is_some : goal.returns-then-is_some
returns-then-is_some c keeps f station are idle =
    let t = c.args.tables.now in
    let last : IsLastAmong c.args.events.now (slice_index c.args.starts.now c.args.place) (c.node_end-until.result + 1) (length c.args.events.now) c.last_event-from.result = c.last_event-from.ensures in
    let inside : c.first_within-inside.result ≡ moment_in_node t keeps f c.args.station c.args.starts.now c.args.place =
    in_node_found t keeps f c.args.station c.args.events.now are c.args.starts.now c.args.place c.last_event-from.result (c.node_end-until.result + 1) c.first_within-inside.result
    (ap (λ n. n + 1) c.node_end-until.ensures) last (c.first_within-inside.ensures (period_of t) (idle_in t keeps c.args.station) (omega (arith, c.node_end-until.ensures, c.requires.end)) (lists_station t keeps c.args.station c.args.idle.now station idle)) in
    elim c.then-is_some.branch [
      | then-is_some-via-then-is_some w ↦ moment_first t keeps f c.args.station c.args.events.now are c.args.starts.now c.args.place c.first_within-inside.result inside (sym c.is_some.ensures ∙ w.if-is_some.true)
      | then-is_some-via-else-is_some+then-place-starts w ↦ moment_alone t keeps f c.args.station c.args.events.now are c.args.starts.now c.args.place c.first_within-inside.result inside
          (λ at_last. omega (arith, w.if-place-starts.true, at_last))
    ]

pub returns : goal.returns
returns c keeps f station are idle =
    let t = c.args.tables.now in
    let last : IsLastAmong c.args.events.now (slice_index c.args.starts.now c.args.place) (c.node_end-until.result + 1) (length c.args.events.now) c.last_event-from.result = c.last_event-from.ensures in
    let inside : c.first_within-inside.result ≡ moment_in_node t keeps f c.args.station c.args.starts.now c.args.place =
    in_node_found t keeps f c.args.station c.args.events.now are c.args.starts.now c.args.place c.last_event-from.result (c.node_end-until.result + 1) c.first_within-inside.result
    (ap (λ n. n + 1) c.node_end-until.ensures) last (c.first_within-inside.ensures (period_of t) (idle_in t keeps c.args.station) (omega (arith, c.node_end-until.ensures, c.requires.end)) (lists_station t keeps c.args.station c.args.idle.now station idle)) in
    let round = round_found t keeps f c.args.station c.args.events.now are c.args.starts.now c.args.place c.first_event.result c.first_within.result
    (omega (arith, c.requires.place, c.if-place-starts.false)) c.first_event.ensures (c.first_within.ensures (period_of t) (idle_in t keeps c.args.station) c.first_event.ensures.within (lists_station t keeps c.args.station c.args.idle.now station idle)) in
    moment_second t keeps f c.args.station c.args.events.now are c.args.starts.now c.args.place c.first_within-inside.result c.first_within.result inside (sym c.is_some.ensures ∙ c.if-is_some.false) round
