use Rattle.std.proofs.Common.{◌<◌, ◌≤◌, ℕ}
use Rattle.plan_rotations.specs.best_matching.Worths.{worth_at}
use Rattle.plan_rotations.specs.declared.best_matching.matching.TheConstants.{MAX_WORTH}
use Rattle.plan_rotations.proofs.best_matching.draft.greatest_worth.Given as goal

abbrev pub invariant-loop-column : goal.invariant-loop-column
invariant-loop-column l = record {
  reach : (column : ℕ) → column < l.column → worth_at l.worths l.row column ≤ l.greatest;
  small : l.greatest ≤ MAX_WORTH;
}
