use Rattle.std.proofs.Common.{◌≡◌}
use Rattle.row_store.specs.Choice.{best_below}
use Rattle.row_store.proofs.store.RowStore.leaving.Given as goal

abbrev pub invariant-loop-row : goal.invariant-loop-row
invariant-loop-row g l = l.best ≡ best_below (g.Self.RowStore.content l.self) l.basis l.column l.row
