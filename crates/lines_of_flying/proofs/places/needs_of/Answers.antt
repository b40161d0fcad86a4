use Rattle.std.proofs.Common.{◌≡◌, ◌≤◌, length, slice_index, ◌∙◌, ap, subst, inl, inr, arith}
use Rattle.std.proofs.lemmas.Bool.{cases_lt}
use Rattle.sums.proofs.Places.{get_or-list_below, length-list_below, list_below-push}
use Rattle.fleet_model.specs.Schedule.{legs_in, stations_in}
use Rattle.lines_of_flying.specs.Grounds.{need_at}
use Rattle.lines_of_flying.proofs.places.needs_of.Goals as goal

pub loop-station-preserved : goal.loop-station-preserved
loop-station-preserved c = record {
  all = c.in_ok-push.ensures.items ∙ list_below-push (need_at c.args.ground.now) c.loop-station.station c.loop-station.needs.items c.need.result c.loop-station.invariant.all c.need.ensures.value;
  few = λ k below. elim (cases_lt k c.loop-station.station) [
    | inl before ↦ c.loop-station.invariant.few k before
    | inr last ↦
        let same : c.loop-station.station ≡ k = omega arith in
        subst (λ s. need_at c.args.ground.now s ≤ legs_in c.args.ground.now.tables.now) same (subst (λ n. n ≤ legs_in c.args.ground.now.tables.now) c.need.ensures.value c.need.ensures.few)
  ];
}

pub returns-clause-each_station : goal.returns-clause-each_station
returns-clause-each_station c =
    let all : c.loop-station.station ≡ stations_in c.args.ground.now.tables.now = omega (arith, c.loop-station-test.false, c.loop-station.auto.station-end, c.station_count-station-end.ensures) in
    ap length c.loop-station.invariant.all ∙ length-list_below (need_at c.args.ground.now) c.loop-station.station ∙ all

pub returns-clause-each : goal.returns-clause-each
returns-clause-each c s below =
    ap (λ needs. slice_index needs s) c.loop-station.invariant.all
    ∙ get_or-list_below (need_at c.args.ground.now) c.loop-station.station s 0 (omega (arith, below, c.loop-station-test.false, c.station_count-station-end.ensures))

pub returns-clause-few : goal.returns-clause-few
returns-clause-few c s below = c.loop-station.invariant.few s (omega (arith, below, c.loop-station-test.false, c.station_count-station-end.ensures))
