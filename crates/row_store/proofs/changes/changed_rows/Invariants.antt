use Rattle.row_store.specs.Pivot.{new_row}
use Rattle.row_store.proofs.Changed.{AreMade}
use Rattle.row_store.proofs.changes.changed_rows.Given as goal

abbrev pub invariant-loop-other : goal.invariant-loop-other
invariant-loop-other g l = AreMade g.R.TableRow.full (g.R.TableRow.table l.rows) (new_row (g.R.TableRow.table l.rows) l.row l.column) l.changes.items l.other
