use Rattle.std.specs.Prelude.{true}
use Rattle.fleet_model.specs.declared.refusals.TableFile.TheVariants as file
use Rattle.table_rows.proofs.FormReading.{formless_refused}
use Rattle.tail_dates.specs.TailTable.{tail_beside, tail_headers, tail_name_of}
use Rattle.tail_dates.proofs.tail_table.read_tails.Goals as goal

pub returns-clause-reads : goal.returns-clause-reads
returns-clause-reads c =
    formless_refused tail_name_of (tail_beside c.args.tables.now) tail_headers true file.Tails _ _
    (rw (← c.in_ok-records.ensures, ← c.deref.ensures.value) c.in-None.ensures) c.without_header.ensures
