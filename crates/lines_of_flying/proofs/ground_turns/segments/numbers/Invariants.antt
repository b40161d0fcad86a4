use Rattle.std.proofs.Common.{◌≡◌, ◌+◌, ◌≤◌}
use Rattle.sums.specs.Places.{list_below}
use Rattle.lines_of_flying.specs.ground_turns.Segments.{marked_before}
use Rattle.lines_of_flying.proofs.ground_turns.segments.numbers.Given as goal

abbrev pub invariant-loop-mark : goal.invariant-loop-mark
invariant-loop-mark l = record {
  so_far : l.numbers.items ≡ list_below (marked_before l.marks) (l.mark-index + 1);
  counted : l.number ≡ marked_before l.marks l.mark-index;
  few : l.number ≤ l.mark-index;
}
