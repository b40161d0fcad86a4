use Rattle.table_rows.proofs.SoFar.{headless_refused}
use Rattle.table_rows.proofs.reading.read_table.Goals as goal

pub returns : goal.returns
returns g c =
    headless_refused g.R.RowReader.key (g.R.RowReader.read c.args.reader.now) c.args.file _ _ _
    (rw (← c.in_ok-records.ensures, ← c.deref.ensures.value) c.in-None.ensures) c.without_header.ensures
