use Rattle.std.proofs.Common.{◌≡◌, ◌+◌, ◌≤◌, ℕ, ◌∙◌, true, false, arith}
use Rattle.sums.proofs.Places.{list_below-push}
use Rattle.lines_of_flying.specs.ground_turns.Segments.{marked_before}
use Rattle.lines_of_flying.proofs.ground_turns.OneSegment.{counted_more}
use Rattle.lines_of_flying.proofs.ground_turns.segments.numbers.Goals as goal
use Rattle.lines_of_flying.proofs.ground_turns.segments.numbers.Goals.{then-mark, else-mark}

-- the number after a mark or none
none_added : (n : ℕ) → n ≡ n + 0
none_added n = omega arith

pub loop-mark-preserved : goal.loop-mark-preserved
loop-mark-preserved c =
    let old = c.loop-mark.invariant in
    let counted : c.if-mark.number ≡ marked_before c.args.marks.now (c.loop-mark.mark-index + 1) = elim c.if-mark.branch [
      | then-mark w ↦ counted_more c.args.marks.now c.loop-mark.mark-index c.loop-mark.number c.if-mark.number true w.if-mark.true old.counted w.number-is
      | else-mark w ↦ counted_more c.args.marks.now c.loop-mark.mark-index c.loop-mark.number c.if-mark.number false w.if-mark.false old.counted (w.number-is ∙ none_added c.loop-mark.number)
    ] in
    let few : c.if-mark.number ≤ c.loop-mark.mark-index + 1 = elim c.if-mark.branch [
      | then-mark w ↦ omega (arith, w.number-is, old.few)
      | else-mark w ↦ omega (arith, w.number-is, old.few)
    ] in
    record {
      so_far = c.in_ok-push-2.ensures.items ∙ list_below-push (marked_before c.args.marks.now) (c.loop-mark.mark-index + 1) c.loop-mark.numbers.items c.if-mark.number old.so_far counted;
      counted = counted;
      few = few;
    }
