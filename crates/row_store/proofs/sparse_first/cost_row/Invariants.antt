use Rattle.std.proofs.Common.{◌+◌, length}
use Rattle.frac_row.specs.Lines.{IsFilledRow}
use Rattle.row_store.specs.Problem.{first_number}
use Rattle.row_store.proofs.sparse_first.cost_row.Given as goal

abbrev pub invariant-loop-column : goal.invariant-loop-column
invariant-loop-column l = IsFilledRow l.made (first_number l.rows (length l.rows.lines + 1)) l.width l.column
