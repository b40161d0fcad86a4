use Rattle.std.proofs.Common.{◌≡◌, ◌≢◌, length}
use Rattle.plan_rotations.specs.best_matching.Drafts.{IsPairing, column_of}
use Rattle.plan_rotations.specs.best_matching.Trees.{IsTurned, IsWay, from_at, turn_of_column}
use Rattle.plan_rotations.proofs.best_matching.walk.walk_back.Given as goal

abbrev pub invariant-loop-before : goal.invariant-loop-before
invariant-loop-before l = record {
  pairing : IsPairing (length l.initial.draft.columns) l.draft;
  way : IsWay (length l.initial.draft.columns) l.draft l.tree l.root l.free;
  before : l.before ≡ from_at l.tree (column_of l.draft l.free);
  turned : IsTurned (length l.initial.draft.columns) l.initial.draft l.draft l.tree l.free;
  root_kept : l.free ≢ l.root → column_of l.draft l.root ≡ column_of l.initial.draft l.root;
  row_duals : l.draft.row_duals ≡ l.initial.draft.row_duals;
  column_duals : l.draft.column_duals ≡ l.initial.draft.column_duals;
}

abbrev pub decreases-loop-before : goal.decreases-loop-before
decreases-loop-before l = turn_of_column l.tree (column_of l.draft l.free)
