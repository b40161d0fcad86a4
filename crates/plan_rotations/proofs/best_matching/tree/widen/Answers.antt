use Rattle.std.proofs.Common.{refl, ap, slice_index}
use Rattle.plan_rotations.proofs.best_matching.WideningSteps.{widened}
use Rattle.plan_rotations.proofs.best_matching.tree.widen.Goals as goal

pub returns-clause-widened : goal.returns-clause-widened
returns-clause-widened c =
    widened _ _ _ _ _ _ _ _ _ c.requires.pairing c.requires.size refl refl refl
    (ap (λ xs. slice_index xs c.nearest-next.result) c.as_slice-2.ensures)
    c.lower_rows.ensures c.raise_columns.ensures c.lower_gaps.ensures c.set.ensures
