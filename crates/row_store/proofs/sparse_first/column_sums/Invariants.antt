use Rattle.std.proofs.Common.{◌≡◌, ◌+◌}
use Rattle.sums.specs.Places.{list_below}
use Rattle.row_store.proofs.FirstRows.{column_sum}
use Rattle.row_store.proofs.sparse_first.column_sums.Given as goal

abbrev pub invariant-loop-line : goal.invariant-loop-line
invariant-loop-line l = l.sums.items ≡ list_below (column_sum l.rows l.line) (l.rows.columns + 1)
