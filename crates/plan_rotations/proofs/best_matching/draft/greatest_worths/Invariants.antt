use Rattle.std.proofs.Common.{◌≡◌, ◌<◌, ◌≤◌, ℕ, length, slice_index}
use Rattle.plan_rotations.specs.best_matching.Worths.{worth_at}
use Rattle.plan_rotations.specs.declared.best_matching.matching.TheConstants.{MAX_WORTH}
use Rattle.plan_rotations.proofs.best_matching.draft.greatest_worths.Given as goal

abbrev pub invariant-loop-row : goal.invariant-loop-row
invariant-loop-row l = record {
  size : length l.greatest.items ≡ l.row;
  reach : (row column : ℕ) → row < l.row → column < length l.worths → worth_at l.worths row column ≤ slice_index l.greatest.items row;
  small : (row : ℕ) → row < l.row → slice_index l.greatest.items row ≤ MAX_WORTH;
}
