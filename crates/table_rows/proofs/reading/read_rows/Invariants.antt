use Rattle.std.proofs.Common.{◌≡◌}
use Rattle.table_rows.specs.Rows.{rows_in}
use Rattle.table_rows.proofs.SoFar.{ReadSoFar}
use Rattle.table_rows.proofs.reading.read_rows.Given as goal

abbrev pub invariant-loop-place : goal.invariant-loop-place
invariant-loop-place g l = record {
  so_far : ReadSoFar g.R.RowReader.key (g.R.RowReader.read l.fn.reader) (rows_in l.rows) l.place (g.R.RowReader.keys l.reader) l.entries.items;
  same : g.R.RowReader.read l.reader ≡ g.R.RowReader.read l.fn.reader;
}
