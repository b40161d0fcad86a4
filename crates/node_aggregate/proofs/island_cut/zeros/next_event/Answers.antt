use Rattle.std.proofs.Common.{◌≡◌, subst, arith}
use Rattle.node_aggregate.specs.island_cut.Zeros.{MoveOutside}
use Rattle.node_aggregate.proofs.island_cut.QuietMinutes.{moves_more, stays_so}
use Rattle.node_aggregate.proofs.island_cut.zeros.next_event.Goals as goal

pub loop-place-preserved : goal.loop-place-preserved
loop-place-preserved g c = record {
  later = c.sooner-next.ensures.later;
  outside = moves_more c.args.tables.now (g.F.Flights.flights c.args.tables.now c.args.flights.now) c.args.station c.args.minute c.loop-place.next c.sooner.result c.sooner-next.result
      c.loop-place.place c.comes_in-comes.result c.leaves_in-leaves.result c.pair-pair.result c.loop-place.invariant.outside c.pair-pair.ensures.value
      c.comes_in-comes.ensures c.leaves_in-leaves.ensures c.sooner.ensures.no_later c.sooner.ensures.past c.sooner-next.ensures.no_later c.sooner-next.ensures.past;
}

pub returns-clause-so : goal.returns-clause-so
returns-clause-so g c =
    let x = g.F.Flights.flights c.args.tables.now c.args.flights.now in
    let all : c.loop-place.place ≡ x.count = omega (arith, c.loop-place-test.false, c.loop-place.auto.place-end, c.count-place-end.ensures.value) in
    stays_so c.args.tables.now x c.args.station c.args.minute c.loop-place.next (subst (MoveOutside c.args.tables.now x c.args.station c.args.minute c.loop-place.next) all c.loop-place.invariant.outside)
