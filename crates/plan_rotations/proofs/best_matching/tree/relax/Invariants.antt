use Rattle.std.proofs.Common.{◌≡◌, ◌<◌, ◌≤◌, ◌+◌, ◌⊎◌, ℕ, length}
use Rattle.plan_rotations.specs.best_matching.Worths.{worth_at}
use Rattle.plan_rotations.specs.best_matching.Drafts.{column_dual, row_dual}
use Rattle.plan_rotations.specs.best_matching.Trees.{HasSize, gap_at, from_at, turn_of_column}
use Rattle.plan_rotations.proofs.best_matching.tree.relax.Given as goal

abbrev pub invariant-loop-column : goal.invariant-loop-column
invariant-loop-column l = record {
  size : HasSize (length l.worths) l.tree;
  turns : l.tree.turns ≡ l.initial.tree.turns;
  kept : (column : ℕ) → column < l.column → turn_of_column l.initial.tree column < length l.worths → from_at l.tree column ≡ from_at l.initial.tree column;
  less : (column : ℕ) → column < l.column → gap_at l.tree column ≤ gap_at l.initial.tree column;
  reach : (column : ℕ) → column < l.column → length l.worths ≤ turn_of_column l.initial.tree column
      → gap_at l.tree column + worth_at l.worths l.tip column ≤ row_dual l.draft l.tip + column_dual l.draft column;
  either : (column : ℕ) → column < l.column
      → ((gap_at l.tree column ≡ gap_at l.initial.tree column) × (from_at l.tree column ≡ from_at l.initial.tree column))
      ⊎ ((gap_at l.tree column + worth_at l.worths l.tip column ≡ row_dual l.draft l.tip + column_dual l.draft column) × (from_at l.tree column ≡ l.tip));
  gaps_later : (column : ℕ) → l.column ≤ column → gap_at l.tree column ≡ gap_at l.initial.tree column;
  from_later : (column : ℕ) → l.column ≤ column → from_at l.tree column ≡ from_at l.initial.tree column;
}
