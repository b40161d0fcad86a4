use Rattle.std.proofs.Common.{◌≡◌, ◌<◌, ◌+◌, ℕ, length, slice_index}
use Rattle.plan_rotations.specs.best_matching.Worths.{worth_at}
use Rattle.plan_rotations.specs.best_matching.Drafts.{column_dual, row_dual}
use Rattle.plan_rotations.proofs.best_matching.phase.first_gaps.Given as goal

abbrev pub invariant-loop-column : goal.invariant-loop-column
invariant-loop-column l = record {
  size : length l.gaps.items ≡ l.column;
  each : (column : ℕ) → column < l.column → slice_index l.gaps.items column + worth_at l.worths l.root column ≡ row_dual l.draft l.root + column_dual l.draft column;
}
