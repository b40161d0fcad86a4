use Rattle.std.proofs.Common.{◌≡◌, length}
use Rattle.row_store.specs.Table.{HasColumns, height_of}
use Rattle.simplex_frac.specs.Bases.{bases_of}
use Rattle.simplex_frac.proofs.PivotsLeft.{pivots_left}
use Rattle.simplex_frac.proofs.UnboundedRuns.{HasMade}
use Rattle.simplex_frac.proofs.finishing.finish.Given as goal

abbrev pub invariant-loop-basis : goal.invariant-loop-basis
invariant-loop-basis g l = record {
  made : HasMade (g.R.RowStore.content l.initial.store) l.columns l.made (g.R.RowStore.content l.store) l.basis.items;
  shape : HasColumns (g.R.RowStore.content l.store) l.columns;
  height : length (g.R.RowStore.content l.store) ≡ length (g.R.RowStore.content l.initial.store);
  lines : length l.basis.items ≡ height_of (g.R.RowStore.content l.store);
}

-- the pivots to come, looked for no further than there are bases
abbrev pub decreases-loop-basis : goal.decreases-loop-basis
decreases-loop-basis g l =
    pivots_left l.columns (bases_of l.columns (height_of (g.R.RowStore.content l.initial.store))) (record { table = g.R.RowStore.content l.store; basis = l.basis.items })
