use Rattle.std.proofs.Common.{◌≡◌, ◌+◌, ◌∙◌, List, Bool, ap, length, arith}
use Rattle.sums.specs.Places.{list_below}
use Rattle.sums.proofs.Places.{length-list_below}
use Rattle.lines_of_flying.specs.ground_turns.Segments.{is_minute_among, marked_before}
use Rattle.lines_of_flying.proofs.ground_turns.OneSegment.{are_numbers, end_at, minutes_are}
use Rattle.lines_of_flying.proofs.ground_turns.segments.Segments.new.Goals as goal

pub numbers-requires : goal.numbers-requires
numbers-requires c =
    let size : length c.in_ok-marks.marks.items ≡ c.args.minutes = ap length c.in_ok-marks.ensures ∙ length-list_below (is_minute_among c.args.ends.now) c.args.minutes in
    let same : length c.deref.result.now ≡ length c.in_ok-marks.marks.items = ap length c.deref.ensures.value in
    omega (arith, size, same, c.requires.few)

pub invariant_of-result : goal.invariant_of-result
invariant_of-result c =
    let size : length c.in_ok-marks.marks.items ≡ c.args.minutes = ap length c.in_ok-marks.ensures ∙ length-list_below (is_minute_among c.args.ends.now) c.args.minutes in
    are_numbers c.in_ok-marks.marks.items c.in_ok-numbers.numbers.items
    (c.in_ok-numbers.ensures ∙ ap (λ (xs : List Bool). list_below (marked_before xs) (length xs + 1)) c.deref.ensures.value) (omega (arith, size, c.requires.some)) (omega (arith, size, c.requires.few))

pub returns-clause-minutes : goal.returns-clause-minutes
returns-clause-minutes c =
    let size : length c.in_ok-marks.marks.items ≡ c.args.minutes = ap length c.in_ok-marks.ensures ∙ length-list_below (is_minute_among c.args.ends.now) c.args.minutes in
    minutes_are c.in_ok-marks.marks.items c.in_ok-numbers.numbers.items
    (c.in_ok-numbers.ensures ∙ ap (λ (xs : List Bool). list_below (marked_before xs) (length xs + 1)) c.deref.ensures.value) ∙ size

pub returns-clause-ends : goal.returns-clause-ends
returns-clause-ends c =
    end_at c.in_ok-marks.marks.items c.in_ok-numbers.numbers.items
    (c.in_ok-numbers.ensures ∙ ap (λ (xs : List Bool). list_below (marked_before xs) (length xs + 1)) c.deref.ensures.value)
    c.args.ends.now c.args.minutes c.in_ok-marks.ensures
