use Rattle.std.proofs.Common.{◌≡◌, ◌-◌, ◌+◌, ◌*◌, ◌^◌, ◌<◌, length, rules, sym, ◌∙◌, ap, subst, arith}
use Rattle.lines_of_flying.proofs.TourLines.{known_legs}
use Rattle.lines_of_flying.specs.Lines.{first_day}
use Rattle.fleet_model.specs.Schedule.{days_in}
use Rattle.tail_dates.specs.Late.{AreLessThan}
use Rattle.tail_dates.specs.Reaches.{maintenance_nights, night_ending, start_line}
use Rattle.tail_dates.specs.Rounds.{HasMaintenance}
use Rattle.tail_dates.proofs.AtPlaces.{below_pushed}
use Rattle.tail_dates.proofs.Nights.{all_nights}
use Rattle.tail_dates.proofs.Rounds.{kept_has}
use Rattle.tail_dates.proofs.StartReaches.{first_day_fits, first_few, nights_few, reach_is, reaches_more}
use Rattle.tail_dates.proofs.reaches.reaches_of.Goals as goal

pub maintenance_nights-requires-clause-known : goal.maintenance_nights-requires-clause-known
maintenance_nights-requires-clause-known c = known_legs c.args.tables.now c.args.plan.now c.args.fleet c.args.tour.now c.requires.tour

pub first_day-requires-clause-known : goal.first_day-requires-clause-known
first_day-requires-clause-known c = known_legs c.args.tables.now c.args.plan.now c.args.fleet c.args.tour.now c.requires.tour

pub overflow_sub-first : goal.overflow_sub-first
overflow_sub-first c =
    let count : c.len.result ≡ length c.in_ok-nights.nights.items = search rules in
    let nights : c.len.result ≡ length (maintenance_nights c.args.tables.now c.args.fleet c.args.tour.now) = count ∙ ap length c.in_ok-nights.ensures in
    let early : c.from.result ≡ first_day c.args.tables.now c.args.fleet c.args.tour.now = c.from.ensures ∙ c.first_day.ensures.value in
    omega (arith, nights, early, first_day_fits c.args.tables.now c.args.plan.now c.args.fleet c.args.tour.now c.requires.tour c.requires.begins)

pub reach-requires-clause-some : goal.reach-requires-clause-some
reach-requires-clause-some c =
    let same : c.deref.result.now ≡ maintenance_nights c.args.tables.now c.args.fleet c.args.tour.now = c.deref.ensures.value ∙ c.in_ok-nights.ensures in
    subst HasMaintenance (sym same) (kept_has c.args.tables.now c.args.fleet c.args.tour.now c.requires.kept.0 c.requires.kept.1)

pub reach-requires-clause-few : goal.reach-requires-clause-few
reach-requires-clause-few c =
    let same : c.deref.result.now ≡ maintenance_nights c.args.tables.now c.args.fleet c.args.tour.now = c.deref.ensures.value ∙ c.in_ok-nights.ensures in
    omega (arith, ap length same, nights_few c.args.tables.now c.args.plan.now c.args.fleet c.args.tour.now c.requires.tour (omega (arith, c.requires.used)))

pub reach-requires-clause-first : goal.reach-requires-clause-first
reach-requires-clause-first c =
    let count : c.len.result ≡ length c.in_ok-nights.nights.items = search rules in
    let nights : c.len.result ≡ length (maintenance_nights c.args.tables.now c.args.fleet c.args.tour.now) = count ∙ ap length c.in_ok-nights.ensures in
    let few = nights_few c.args.tables.now c.args.plan.now c.args.fleet c.args.tour.now c.requires.tour (omega (arith, c.requires.used)) in
    let all : c.len.result ≡ c.args.used * days_in c.args.tables.now =
    nights ∙ all_nights c.args.tables.now c.args.plan.now c.args.fleet c.args.tour.now c.requires.tour ∙ ap (λ n. n * days_in c.args.tables.now) (sym c.requires.used) in
    let start : c.from-in-loop-start.result < c.args.used = omega (arith, c.from-in-loop-start.ensures, c.loop-start-test.true) in
    omega (arith, c.start_line-line.ensures.value, first_few c.len.result c.from.result c.from-in-loop-start.result c.args.day c.args.used (days_in c.args.tables.now) 34359738368 all start c.requires.day (omega (arith, nights, few)))

pub loop-start-preserved : goal.loop-start-preserved
loop-start-preserved c =
    let same : c.deref.result.now ≡ maintenance_nights c.args.tables.now c.args.fleet c.args.tour.now = c.deref.ensures.value ∙ c.in_ok-nights.ensures in
    let count : c.len.result ≡ length c.in_ok-nights.nights.items = search rules in
    let nights : c.len.result ≡ length (maintenance_nights c.args.tables.now c.args.fleet c.args.tour.now) = count ∙ ap length c.in_ok-nights.ensures in
    let early : c.from.result ≡ first_day c.args.tables.now c.args.fleet c.args.tour.now = c.from.ensures ∙ c.first_day.ensures.value in
    let line : c.start_line-line.result ≡ start_line c.args.tables.now c.args.day c.loop-start.start = c.start_line-line.ensures.value ∙ ap (start_line c.args.tables.now c.args.day) c.from-in-loop-start.ensures in
    let first : c.len.result - c.from.result + c.start_line-line.result ≡ night_ending c.args.tables.now c.args.fleet c.args.tour.now (start_line c.args.tables.now c.args.day c.loop-start.start) =
    omega (arith, nights, early, line) in
    let few = nights_few c.args.tables.now c.args.plan.now c.args.fleet c.args.tour.now c.requires.tour (omega (arith, c.requires.used)) in
    record {
      value = reaches_more c.args.tables.now c.args.fleet c.args.tour.now c.args.day c.loop-start.reaches.items c.push.new.self.items c.loop-start.start c.reach.result c.loop-start.invariant.value c.in_ok-push.ensures.items
          (reach_is c.args.tables.now c.args.fleet c.args.tour.now c.deref.result.now (start_line c.args.tables.now c.args.day c.loop-start.start) _ c.reach.result same first c.reach.ensures.value);
      few = subst (AreLessThan (2 ^ 40)) (sym c.in_ok-push.ensures.items)
          (below_pushed (2 ^ 40) c.loop-start.reaches.items c.reach.result c.loop-start.invariant.few (omega (arith, c.reach.ensures.few, ap length same, few)));
    }
