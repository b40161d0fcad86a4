use Rattle.std.proofs.Common.{◌≡◌, None}
use Rattle.sums.specs.Places.{first_below}
use Rattle.row_store.specs.Pivot.{row_growth}
use Rattle.row_store.proofs.pivoting.pivot_growth.Given as goal

abbrev pub invariant-loop-other : goal.invariant-loop-other
invariant-loop-other g l = first_below (row_growth (g.R.TableRow.table l.rows) l.row l.column) l.other ≡ None
