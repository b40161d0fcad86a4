use Rattle.std.proofs.Common.{length}
use Rattle.row_store.proofs.Changed.{IsPut}
use Rattle.row_store.proofs.changes.put_rows.Given as goal

abbrev pub invariant-loop-change : goal.invariant-loop-change
invariant-loop-change g l = IsPut g.R.TableRow.full (g.R.TableRow.table l.initial.rows.items) (g.R.TableRow.table l.rows.items) l.initial.left.items l.left.items

abbrev pub decreases-loop-change : goal.decreases-loop-change
decreases-loop-change g l = length l.left.items
