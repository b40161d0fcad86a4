use Rattle.std.proofs.Common.{pos, length, get_or}
use Rattle.frac_row.proofs.LineNumbers.{IsBeginning}
use Rattle.frac_row.proofs.filling.begun.Given as goal

abbrev pub invariant-loop-entry : goal.invariant-loop-entry
invariant-loop-entry l = IsBeginning l.made (λ column. get_or l.line column (pos 0)) l.width l.columns (length l.line) l.left

abbrev pub decreases-loop-entry : goal.decreases-loop-entry
decreases-loop-entry l = length l.left
