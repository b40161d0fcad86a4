use Rattle.std.proofs.Common.{◌+◌, length}
use Rattle.frac_row.specs.Lines.{IsFilledRow}
use Rattle.row_store.specs.Problem.{first_number}
use Rattle.row_store.proofs.sparse_first.phase_row.Given as goal

abbrev pub invariant-loop-column : goal.invariant-loop-column
invariant-loop-column l = IsFilledRow l.made (first_number l.rows (length l.rows.lines)) (l.right_side + 1) l.column
