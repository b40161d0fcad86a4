use Rattle.std.proofs.Common.{◌≡◌, ◌-◌, ◌+◌, ◌*◌, ◌<◌, length, rules, sym, ◌∙◌, ap, arith}
use Rattle.std.proofs.lemmas.Nat.{mod_below}
use Rattle.lines_of_flying.proofs.TourLines.{known_legs}
use Rattle.lines_of_flying.specs.Lines.{first_day}
use Rattle.fleet_model.specs.Schedule.{days_in}
use Rattle.tail_dates.specs.Places.{place_number, place_of_line, places_in, places_of_tour}
use Rattle.tail_dates.specs.Reaches.{night_ending, start_line}
use Rattle.tail_dates.proofs.Nights.{all_nights}
use Rattle.tail_dates.proofs.StartReaches.{first_day_fits}
use Rattle.tail_dates.proofs.TourPlaces.{a_place_each_night, number_known, place_known, some_nights, start_places_more, there_is}
use Rattle.tail_dates.proofs.tour_places.start_places.Goals as goal

pub places_of_tour-requires-clause-known : goal.places_of_tour-requires-clause-known
places_of_tour-requires-clause-known c = known_legs c.args.tables.now c.args.plan.now c.args.fleet c.args.tour.now c.requires.tour

pub first_day-requires-clause-known : goal.first_day-requires-clause-known
first_day-requires-clause-known c = known_legs c.args.tables.now c.args.plan.now c.args.fleet c.args.tour.now c.requires.tour

pub overflow_sub-first : goal.overflow_sub-first
overflow_sub-first c =
    let counted : c.len-count.result ≡ length c.in_ok-nights.nights.items = search rules in
    let nights : c.len-count.result ≡ length (places_of_tour c.args.tables.now c.args.fleet c.args.tour.now) = counted ∙ ap length c.in_ok-nights.ensures in
    let early : c.from.result ≡ first_day c.args.tables.now c.args.fleet c.args.tour.now = c.from.ensures ∙ c.first_day.ensures.value in
    omega (arith, nights, a_place_each_night c.args.tables.now c.args.fleet c.args.tour.now, early, first_day_fits c.args.tables.now c.args.plan.now c.args.fleet c.args.tour.now c.requires.tour c.requires.begins)

pub nonzero_rem-before : goal.nonzero_rem-before
nonzero_rem-before c =
    let counted : c.len-count.result ≡ length c.in_ok-nights.nights.items = search rules in
    let all : c.len-count.result ≡ c.args.used * days_in c.args.tables.now =
    counted ∙ ap length c.in_ok-nights.ensures ∙ a_place_each_night c.args.tables.now c.args.fleet c.args.tour.now ∙ all_nights c.args.tables.now c.args.plan.now c.args.fleet c.args.tour.now c.requires.tour ∙ ap (λ n. n * days_in c.args.tables.now) (sym c.requires.used) in
    some_nights c.loop-start.start c.args.day c.args.used (days_in c.args.tables.now) c.len-count.result all c.loop-start-test.true c.requires.day

pub overflow_sub-before : goal.overflow_sub-before
overflow_sub-before c =
    let counted : c.len-count.result ≡ length c.in_ok-nights.nights.items = search rules in
    let all : c.len-count.result ≡ c.args.used * days_in c.args.tables.now =
    counted ∙ ap length c.in_ok-nights.ensures ∙ a_place_each_night c.args.tables.now c.args.fleet c.args.tour.now ∙ all_nights c.args.tables.now c.args.plan.now c.args.fleet c.args.tour.now c.requires.tour ∙ ap (λ n. n * days_in c.args.tables.now) (sym c.requires.used) in
    omega (arith, some_nights c.loop-start.start c.args.day c.args.used (days_in c.args.tables.now) c.len-count.result all c.loop-start-test.true c.requires.day)

pub index-requires : goal.index-requires
index-requires c =
    let counted : c.len-count.result ≡ length c.in_ok-nights.nights.items = search rules in
    let all : c.len-count.result ≡ c.args.used * days_in c.args.tables.now =
    counted ∙ ap length c.in_ok-nights.ensures ∙ a_place_each_night c.args.tables.now c.args.fleet c.args.tour.now ∙ all_nights c.args.tables.now c.args.plan.now c.args.fleet c.args.tour.now c.requires.tour ∙ ap (λ n. n * days_in c.args.tables.now) (sym c.requires.used) in
    let some = some_nights c.loop-start.start c.args.day c.args.used (days_in c.args.tables.now) c.len-count.result all c.loop-start-test.true c.requires.day in
    omega (arith, counted, mod_below (c.len-count.result - c.from.result + c.start_line-line.result + c.len-count.result - 1) c.len-count.result some)

pub loop-start-preserved : goal.loop-start-preserved
loop-start-preserved c =
    let counted : c.len-count.result ≡ length c.in_ok-nights.nights.items = search rules in
    let count : c.len-count.result ≡ length (places_of_tour c.args.tables.now c.args.fleet c.args.tour.now) = counted ∙ ap length c.in_ok-nights.ensures in
    let all : c.len-count.result ≡ c.args.used * days_in c.args.tables.now =
    count ∙ a_place_each_night c.args.tables.now c.args.fleet c.args.tour.now ∙ all_nights c.args.tables.now c.args.plan.now c.args.fleet c.args.tour.now c.requires.tour ∙ ap (λ n. n * days_in c.args.tables.now) (sym c.requires.used) in
    let some = some_nights c.loop-start.start c.args.day c.args.used (days_in c.args.tables.now) c.len-count.result all c.loop-start-test.true c.requires.day in
    let early : c.from.result ≡ first_day c.args.tables.now c.args.fleet c.args.tour.now = c.from.ensures ∙ c.first_day.ensures.value in
    let line : c.start_line-line.result ≡ start_line c.args.tables.now c.args.day c.loop-start.start = c.start_line-line.ensures.value ∙ ap (start_line c.args.tables.now c.args.day) c.from-in-loop-start.ensures in
    let last : c.len-count.result - c.from.result + c.start_line-line.result + c.len-count.result - 1
    ≡ night_ending c.args.tables.now c.args.fleet c.args.tour.now (start_line c.args.tables.now c.args.day c.loop-start.start) + length (places_of_tour c.args.tables.now c.args.fleet c.args.tour.now) - 1 =
    omega (arith, count, a_place_each_night c.args.tables.now c.args.fleet c.args.tour.now, early, line) in
    let there : c.index.result.now ≡ place_of_line c.args.tables.now c.args.fleet c.args.tour.now (start_line c.args.tables.now c.args.day c.loop-start.start) =
    there_is c.args.tables.now c.args.fleet c.args.tour.now (start_line c.args.tables.now c.args.day c.loop-start.start) c.in_ok-nights.nights.items c.len-count.result _ c.index.result.now c.in_ok-nights.ensures count last c.index.ensures some in
    let is : c.number_of.result ≡ place_number c.args.tables.now (place_of_line c.args.tables.now c.args.fleet c.args.tour.now (start_line c.args.tables.now c.args.day c.loop-start.start)) = c.number_of.ensures ∙ ap (place_number c.args.tables.now) there in
    let known : place_number c.args.tables.now (place_of_line c.args.tables.now c.args.fleet c.args.tour.now (start_line c.args.tables.now c.args.day c.loop-start.start)) < places_in c.args.tables.now =
    number_known c.args.tables.now _ (place_known c.args.tables.now c.args.plan.now c.args.fleet c.args.tour.now _ c.requires.tour (omega (arith, count, some))) in
    start_places_more c.args.tables.now c.args.fleet c.args.tour.now c.args.day c.loop-start.places.items c.push.new.self.items c.loop-start.start c.number_of.result c.loop-start.invariant c.in_ok-push.ensures.items is (omega (arith, is, known))
