use Rattle.std.proofs.Common.{◌≡◌}
use Rattle.row_store.specs.Choice.{best_below}
use Rattle.row_store.proofs.sparse_scanning.least_ratio.Given as goal

abbrev pub invariant-loop-row : goal.invariant-loop-row
invariant-loop-row l = l.best ≡ best_below l.rows l.basis l.column l.row
