use Rattle.std.proofs.Common.{◌∙◌, refl, arith}
use Rattle.table_rows.specs.Rows.{fields_in, rows_in}
use Rattle.table_rows.proofs.SoFar.{row_found, rows_end, rows_within, so_far_all, so_far_none, so_far_push, so_far_refused}
use Rattle.table_rows.proofs.reading.read_rows.Goals as goal

pub loop-place-init : goal.loop-place-init
loop-place-init g c = record {
  so_far = so_far_none g.R.RowReader.key (g.R.RowReader.read c.args.reader.now) _ _ _ c.requires c.new-entries.ensures.items;
  same = refl;
}

pub loop-place-preserved : goal.loop-place-preserved
loop-place-preserved g c =
    let row = row_found c.args.rows.now c.loop-place.place c.index-rows-place.result c.deref.result.now c.loop-place-test.true c.index-rows-place.is c.deref.ensures.value in
    record {
      so_far = so_far_push g.R.RowReader.key (g.R.RowReader.read c.args.reader.now) (g.R.RowReader.read c.loop-place.reader) (rows_in c.args.rows.now) _ _ _ _ c.push.new.self.items c.in-Ok.entry (fields_in c.deref.result.now)
          c.loop-place.invariant.same c.loop-place.invariant.so_far row c.in-Ok.ensures.reads c.in_ok-push-in-Ok.ensures.items;
      same = c.in-Ok.ensures.same ∙ c.loop-place.invariant.same;
    }

pub returns-in-Err : goal.returns-in-Err
returns-in-Err g c =
    let row = row_found c.args.rows.now c.loop-place.place c.index-rows-place.result c.deref.result.now c.loop-place-test.true c.index-rows-place.is c.deref.ensures.value in
    rw c.at_record.ensures (so_far_refused g.R.RowReader.key (g.R.RowReader.read c.args.reader.now) (g.R.RowReader.read c.loop-place.reader) _ (rows_in c.args.rows.now) _ _ _ (fields_in c.deref.result.now) c.in-Err.error
    c.loop-place.invariant.same c.loop-place.invariant.so_far (rows_within _ _ c.loop-place-test.true) row c.in-Err.ensures.reads)

pub returns : goal.returns
returns g c =
    so_far_all g.R.RowReader.key (g.R.RowReader.read c.args.reader.now) _ _ _ _ c.loop-place.invariant.so_far (rows_end c.args.rows.now c.loop-place.place (omega arith) (omega arith))
