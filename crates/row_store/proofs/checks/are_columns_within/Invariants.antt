use Rattle.std.proofs.Common.{ℕ, ◌<◌}
use Rattle.row_store.specs.Problem.{IsColumnWithin}
use Rattle.row_store.proofs.checks.are_columns_within.Given as goal

abbrev pub invariant-loop-column : goal.invariant-loop-column
invariant-loop-column l = (k : ℕ) → k < l.column → IsColumnWithin l.rows k
