use Rattle.std.proofs.Common.{◌+◌, if◌then◌else◌, slice_index}
use Rattle.sums.specs.Places.{IsFilledBelow}
use Rattle.plan_rotations.specs.best_matching.Trees.{is_in_tree}
use Rattle.plan_rotations.proofs.best_matching.tree.raise_columns.Given as goal

abbrev pub invariant-loop-column : goal.invariant-loop-column
invariant-loop-column l =
    IsFilledBelow 0 (λ column. if is_in_tree l.turns column then slice_index l.initial.column_duals column + l.by else slice_index l.initial.column_duals column)
    l.initial.column_duals l.column_duals l.column
