use Rattle.std.proofs.Common.{pos, ◌+ℤ◌, length, get_or}
use Rattle.sums.specs.Places.{list_below}
use Rattle.frac_row.proofs.LineNumbers.{IsAdding}
use Rattle.frac_row.proofs.line_sums.add_line.Given as goal

abbrev pub invariant-loop-entry : goal.invariant-loop-entry
invariant-loop-entry l =
    IsAdding (list_below (λ column. get_or l.initial.sums.items column (pos 0) +ℤ get_or l.line column (pos 0)) (length l.initial.sums.items)) l.sums.items l.left

abbrev pub decreases-loop-entry : goal.decreases-loop-entry
decreases-loop-entry l = length l.left
