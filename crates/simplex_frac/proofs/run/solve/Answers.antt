use Rattle.std.proofs.Common.{◌≡◌, arith, refl, sym, ◌∙◌, ap, subst, inl}
use Rattle.std.specs.Prelude.{length, None}
use Rattle.sums.proofs.Places.{length-list_below}
use Rattle.row_store.specs.Table.{IsTable}
use Rattle.row_store.specs.Pivot.{pivot_growth}
use Rattle.simplex_frac.specs.Outcomes.{Reaches}
use Rattle.row_store.proofs.Tables.{length-pivoted}
use Rattle.simplex_frac.proofs.Turns.{due, pivot_place}
use Rattle.simplex_frac.proofs.NoBasisTwice.{spent_early}
use Rattle.simplex_frac.proofs.Stages.{reaches_first, reaches_next, columns_next, lines_next}
use Rattle.simplex_frac.proofs.run.solve.Goals as goal

pub loop-made-init : goal.loop-made-init
loop-made-init g c = record {
  reaches = reaches_first (g.R.RowStore.content c.args.store.now) c.args.columns _ c.height.result c.height.ensures c.in-Ok.ensures;
  shape = c.requires;
  height = refl;
  lines = ap length c.in-Ok.ensures ∙ length-list_below _ c.height.result ∙ omega arith;
}

pub returns-in_default-clause-stopped : goal.returns-in_default-clause-stopped
returns-in_default-clause-stopped g c = inl refl

pub pivot-requires : goal.pivot-requires
pivot-requires g c =
    let place = pivot_place (record { table = g.R.RowStore.content c.loop-made.store; basis = c.loop-made.basis.items }) c.args.columns c.in-Pivot.row c.in-Pivot.column (sym (due _ _ _ _ _ _ c.in-Pivot.ensures c.as_slice.ensures.value)) in
    record { row = omega (arith, place.line); column = omega (arith, place.real, c.loop-made.invariant.shape); positive = place.positive }

pub index_mut-requires : goal.index_mut-requires
index_mut-requires g c =
    let place = pivot_place (record { table = g.R.RowStore.content c.loop-made.store; basis = c.loop-made.basis.items }) c.args.columns c.in-Pivot.row c.in-Pivot.column (sym (due _ _ _ _ _ _ c.in-Pivot.ensures c.as_slice.ensures.value)) in
    omega (arith, place.line, c.loop-made.invariant.lines)

pub loop-made-preserved : goal.loop-made-preserved
loop-made-preserved g c =
    let place = pivot_place (record { table = g.R.RowStore.content c.loop-made.store; basis = c.loop-made.basis.items }) c.args.columns c.in-Pivot.row c.in-Pivot.column (sym (due _ _ _ _ _ _ c.in-Pivot.ensures c.as_slice.ensures.value)) in
    let is : IsTable (g.R.RowStore.content c.loop-made.store) = g.met.R.RowStore.is_table c.loop-made.store in
    let none : pivot_growth (g.R.RowStore.content c.loop-made.store) c.in-Pivot.row c.in-Pivot.column ≡ None = c.in-Ok-pivot.ensures.fits in
    record {
      reaches = reaches_next (g.R.RowStore.content c.args.store.now) c.args.columns c.loop-made.made (g.R.RowStore.content c.loop-made.store) _ c.loop-made.basis.items c.in-Pivot.row c.in-Pivot.column c.loop-made.invariant.reaches (due _ _ _ _ _ _ c.in-Pivot.ensures c.as_slice.ensures.value) none c.in-Ok-pivot.ensures.pivoted;
      shape = columns_next (g.R.RowStore.content c.loop-made.store) _ c.args.columns c.in-Pivot.row c.in-Pivot.column is (omega (arith, place.line)) c.loop-made.invariant.shape c.in-Ok-pivot.ensures.pivoted;
      height = ap length c.in-Ok-pivot.ensures.pivoted ∙ length-pivoted (g.R.RowStore.content c.loop-made.store) c.in-Pivot.row c.in-Pivot.column ∙ c.loop-made.invariant.height;
      lines = lines_next (g.R.RowStore.content c.loop-made.store) _ c.loop-made.basis.items c.in-Pivot.row c.in-Pivot.column c.loop-made.invariant.lines c.in-Ok-pivot.ensures.pivoted;
    }

pub returns-clause-few : goal.returns-clause-few
returns-clause-few g c =
    let all : c.loop-made.made ≡ c.args.pivots = omega arith in
    spent_early (g.R.RowStore.content c.args.store.now) c.args.columns c.args.pivots (g.R.RowStore.content c.loop-made.store) c.loop-made.basis.items _ _ _
    (subst (λ k. Reaches (g.R.RowStore.content c.args.store.now) c.args.columns k (g.R.RowStore.content c.loop-made.store) c.loop-made.basis.items) all c.loop-made.invariant.reaches) c.end-2.ensures
