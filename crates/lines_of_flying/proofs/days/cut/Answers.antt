use Rattle.std.proofs.Common.{◌≡◌, ◌-◌, ◌++◌, length, slice_index, take, refl, ◌∙◌, ap, arith}
use Rattle.sums.specs.Places.{list_below}
use Rattle.lines_of_flying.specs.Lines.{day_of, legs_on_day, line_after, lines_ended}
use Rattle.lines_of_flying.proofs.TourLines.{enough_lines, last_lines, leg_more}
use Rattle.lines_of_flying.proofs.days.cut.Goals as goal

pub loop-place-preserved : goal.loop-place-preserved
loop-place-preserved c =
    let more = leg_more c.args.tables.now c.args.fleet c.args.tour.now c.loop-place.place (slice_index c.args.tour.now c.loop-place.place) c.nights_after-nights.result
    c.loop-place.lines.items c.loop-place.line.items c.loop-place.invariant.ended c.loop-place.invariant.begun refl c.nights_after-nights.ensures in
    record {
      ended = c.in_ok-line.ensures.ended ∙ ap (λ xs. c.loop-place.lines.items ++ lines_ended xs c.nights_after-nights.result) c.in_ok-push.ensures.items ∙ more.0;
      begun = c.in_ok-line.ensures.rest ∙ ap (λ xs. line_after xs c.nights_after-nights.result) c.in_ok-push.ensures.items ∙ more.1;
    }

pub overflow_sub-len : goal.overflow_sub-len
overflow_sub-len c = omega (
  arith,
  enough_lines c.args.tables.now c.args.fleet c.args.tour.now c.loop-place.place c.loop-place.lines.items c.loop-place.invariant.ended,
  c.first_day-early.ensures.value,
  c.len.ensures,
)

pub returns : goal.returns
returns c =
    let t = c.args.tables.now in
    let tour = c.args.tour.now in
    let all : c.loop-place.place ≡ length tour = omega (arith, c.loop-place-test.false, c.loop-place.auto.place-end) in
    let long : c.len.result ≡ length c.loop-place.lines.items = omega (arith, c.len.ensures, c.loop-place.lines.ok) in
    c.from_vec.ensures
    ∙ c.truncate.ensures.items
    ∙ ap (λ n. take (n - c.first_day-early.result) c.loop-place.lines.items) long
    ∙ last_lines t c.args.fleet tour c.first_day-early.result c.loop-place.lines.items c.first_day-early.ensures.value
    (c.loop-place.invariant.ended ∙ ap (λ n. list_below (λ d. legs_on_day t c.args.fleet tour d n) (day_of t c.args.fleet tour n)) all)

pub nights_after-nights-requires-clause-known : goal.nights_after-nights-requires-clause-known
nights_after-nights-requires-clause-known c = c.requires.known
