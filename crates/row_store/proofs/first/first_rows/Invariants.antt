use Rattle.std.proofs.Common.{◌≡◌}
use Rattle.sums.specs.Places.{list_below}
use Rattle.row_store.specs.Problem.{first_row}
use Rattle.row_store.proofs.first.first_rows.Given as goal

abbrev pub invariant-loop-row : goal.invariant-loop-row
invariant-loop-row g l = g.R.TableRow.table l.made.items ≡ list_below (first_row l.rows) l.row
