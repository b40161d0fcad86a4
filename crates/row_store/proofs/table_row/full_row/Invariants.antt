use Rattle.std.proofs.Common.{◌≡◌}
use Rattle.sums.specs.Places.{list_below}
use Rattle.frac_row.specs.Row.{number_of}
use Rattle.row_store.proofs.table_row.full_row.Given as goal

abbrev pub invariant-loop-column : goal.invariant-loop-column
invariant-loop-column l = l.numbers.items ≡ list_below (number_of l.row) l.column
