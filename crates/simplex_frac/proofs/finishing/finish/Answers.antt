use Rattle.std.proofs.Common.{◌≡◌, arith, refl, sym, ◌∙◌, ap}
use Rattle.std.specs.Prelude.{length, None}
use Rattle.sums.proofs.Places.{length-list_below}
use Rattle.row_store.specs.Table.{HasColumns, IsTable}
use Rattle.row_store.specs.Pivot.{pivot_growth}
use Rattle.row_store.proofs.Tables.{length-pivoted}
use Rattle.simplex_frac.proofs.Turns.{due, pivot_place}
use Rattle.simplex_frac.proofs.Stages.{reaches_first, columns_next, lines_next}
use Rattle.simplex_frac.proofs.UnboundedRuns.{made_none, made_more, started_columns, measure_falls, stopped_at}
use Rattle.simplex_frac.proofs.finishing.finish.Goals as goal

pub first_basis-requires : goal.first_basis-requires
first_basis-requires g c =
    let shape : HasColumns (g.R.RowStore.content c.args.store.now) c.args.columns = started_columns _ _ c.requires in
    omega (arith, shape, (g.met.R.RowStore.is_table c.args.store.now).few_columns, c.height.ensures)

pub returns-in_default-clause-shape : goal.returns-in_default-clause-shape
returns-in_default-clause-shape g c = started_columns _ _ c.requires

pub loop-basis-init : goal.loop-basis-init
loop-basis-init g c = record {
  made = made_none _ _ _ _ (reaches_first (g.R.RowStore.content c.args.store.now) c.args.columns _ c.height.result c.height.ensures c.in-Ok.ensures);
  shape = started_columns _ _ c.requires;
  height = refl;
  lines = ap length c.in-Ok.ensures ∙ length-list_below _ c.height.result ∙ omega arith;
}

pub pivot-requires : goal.pivot-requires
pivot-requires g c =
    let place = pivot_place (record { table = g.R.RowStore.content c.loop-basis.store; basis = c.loop-basis.basis.items }) c.args.columns c.in-Pivot.row c.in-Pivot.column (sym (due _ _ _ _ _ _ c.in-Pivot.ensures c.as_slice.ensures.value)) in
    record { row = omega (arith, place.line); column = omega (arith, place.real, c.loop-basis.invariant.shape); positive = place.positive }

pub index_mut-requires : goal.index_mut-requires
index_mut-requires g c =
    let place = pivot_place (record { table = g.R.RowStore.content c.loop-basis.store; basis = c.loop-basis.basis.items }) c.args.columns c.in-Pivot.row c.in-Pivot.column (sym (due _ _ _ _ _ _ c.in-Pivot.ensures c.as_slice.ensures.value)) in
    omega (arith, place.line, c.loop-basis.invariant.lines)

pub returns-in-Err-clause-stopped : goal.returns-in-Err-clause-stopped
returns-in-Err-clause-stopped g c =
    stopped_at (g.R.RowStore.content c.args.store.now) c.args.columns c.loop-basis.made c.loop-basis.made (g.R.RowStore.content c.loop-basis.store) (g.R.RowStore.content c.pivot.new.self) c.loop-basis.basis.items c.in-Pivot.row c.in-Pivot.column c.in-Err.error c.cut_off.result
    c.loop-basis.invariant.made (due _ _ _ _ _ _ c.in-Pivot.ensures c.as_slice.ensures.value) c.in-Err.ensures.grew c.in-Err.ensures.unchanged c.cut_off.ensures

pub loop-basis-smaller : goal.loop-basis-smaller
loop-basis-smaller g c =
    measure_falls (g.R.RowStore.content c.args.store.now) c.args.columns c.loop-basis.made (g.R.RowStore.content c.loop-basis.store) (g.R.RowStore.content c.pivot.new.self) c.loop-basis.basis.items c.in-Pivot.row c.in-Pivot.column c.requires
    c.loop-basis.invariant.made (due _ _ _ _ _ _ c.in-Pivot.ensures c.as_slice.ensures.value) c.in-Ok-pivot.ensures.fits c.in-Ok-pivot.ensures.pivoted

pub loop-basis-preserved : goal.loop-basis-preserved
loop-basis-preserved g c =
    let place = pivot_place (record { table = g.R.RowStore.content c.loop-basis.store; basis = c.loop-basis.basis.items }) c.args.columns c.in-Pivot.row c.in-Pivot.column (sym (due _ _ _ _ _ _ c.in-Pivot.ensures c.as_slice.ensures.value)) in
    let is : IsTable (g.R.RowStore.content c.loop-basis.store) = g.met.R.RowStore.is_table c.loop-basis.store in
    let none : pivot_growth (g.R.RowStore.content c.loop-basis.store) c.in-Pivot.row c.in-Pivot.column ≡ None = c.in-Ok-pivot.ensures.fits in
    record {
      made = made_more (g.R.RowStore.content c.args.store.now) c.args.columns c.loop-basis.made c.saturating_add-made.result (g.R.RowStore.content c.loop-basis.store) _ c.loop-basis.basis.items c.in-Pivot.row c.in-Pivot.column c.loop-basis.invariant.made (due _ _ _ _ _ _ c.in-Pivot.ensures c.as_slice.ensures.value) none c.in-Ok-pivot.ensures.pivoted c.saturating_add-made.ensures;
      shape = columns_next (g.R.RowStore.content c.loop-basis.store) _ c.args.columns c.in-Pivot.row c.in-Pivot.column is (omega (arith, place.line)) c.loop-basis.invariant.shape c.in-Ok-pivot.ensures.pivoted;
      height = ap length c.in-Ok-pivot.ensures.pivoted ∙ length-pivoted (g.R.RowStore.content c.loop-basis.store) c.in-Pivot.row c.in-Pivot.column ∙ c.loop-basis.invariant.height;
      lines = lines_next (g.R.RowStore.content c.loop-basis.store) _ c.loop-basis.basis.items c.in-Pivot.row c.in-Pivot.column c.loop-basis.invariant.lines c.in-Ok-pivot.ensures.pivoted;
    }
