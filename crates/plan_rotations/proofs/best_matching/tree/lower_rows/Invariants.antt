use Rattle.std.proofs.Common.{◌-◌, if◌then◌else◌, slice_index}
use Rattle.sums.specs.Places.{IsFilledBelow}
use Rattle.plan_rotations.specs.best_matching.Trees.{is_reached}
use Rattle.plan_rotations.proofs.best_matching.tree.lower_rows.Given as goal

abbrev pub invariant-loop-row : goal.invariant-loop-row
invariant-loop-row l =
    IsFilledBelow 0 (λ row. if is_reached l.columns l.turns l.root row then slice_index l.initial.row_duals row - l.by else slice_index l.initial.row_duals row) l.initial.row_duals l.row_duals l.row
