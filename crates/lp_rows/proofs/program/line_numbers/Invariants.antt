use Rattle.lp_rows.specs.Layout.{starts_in}
use Rattle.lp_rows.proofs.MetColumns.{IsFilledTo}
use Rattle.lp_rows.proofs.program.line_numbers.Given as goal

abbrev pub invariant-loop-column : goal.invariant-loop-column
invariant-loop-column l = IsFilledTo l.tables (starts_in l.network) l.columns l.line l.row l.column-index
