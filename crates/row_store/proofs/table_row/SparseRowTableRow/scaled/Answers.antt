use Rattle.row_store.specs.Pivot.{scaled_row}
use Rattle.row_store.proofs.table_row.SparseRowTableRow.scaled.Goals as goal

pub returns : goal.returns
unfolding scaled_row
returns c = c.scaled.ensures
