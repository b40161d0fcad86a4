use Rattle.std.proofs.Common.{◌≡◌, length}
use Rattle.row_store.specs.Table.{HasColumns, height_of}
use Rattle.simplex_frac.specs.Outcomes.{Reaches}
use Rattle.simplex_frac.proofs.run.solve.Given as goal

abbrev pub invariant-loop-made : goal.invariant-loop-made
invariant-loop-made g l = record {
  reaches : Reaches (g.R.RowStore.content l.initial.store) l.columns l.made (g.R.RowStore.content l.store) l.basis.items;
  shape : HasColumns (g.R.RowStore.content l.store) l.columns;
  height : length (g.R.RowStore.content l.store) ≡ length (g.R.RowStore.content l.initial.store);
  lines : length l.basis.items ≡ height_of (g.R.RowStore.content l.store);
}
