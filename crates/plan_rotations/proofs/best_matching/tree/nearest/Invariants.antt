use Rattle.std.proofs.Common.{◌<◌, ◌≤◌, ℕ, length}
use Rattle.plan_rotations.specs.best_matching.Trees.{gap_at, turn_of_column}
use Rattle.plan_rotations.proofs.best_matching.tree.nearest.Given as goal

abbrev pub invariant-loop-column : goal.invariant-loop-column
invariant-loop-column l = record {
  within : l.nearest < length l.tree.turns;
  outside : length l.tree.turns ≤ turn_of_column l.tree l.nearest;
  least : (column : ℕ) → column < l.column → length l.tree.turns ≤ turn_of_column l.tree column → gap_at l.tree l.nearest ≤ gap_at l.tree column;
}
