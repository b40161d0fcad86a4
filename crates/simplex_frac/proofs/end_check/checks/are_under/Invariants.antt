use Rattle.std.proofs.Common.{ℕ, ◌<◌, ◌*ℤ◌, ◌≤ℤ◌}
use Rattle.simplex_frac.specs.end_check.Ends.{value_in}
use Rattle.simplex_frac.proofs.end_check.checks.are_under.Given as goal

abbrev pub invariant-loop-column : goal.invariant-loop-column
invariant-loop-column l = (column : ℕ) → column < l.column → value_in l.weights column ≤ℤ (l.scale *ℤ value_in l.costs column)
