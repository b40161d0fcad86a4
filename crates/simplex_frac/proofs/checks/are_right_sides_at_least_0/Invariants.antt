use Rattle.std.proofs.Common.{ℕ, ◌<◌, pos, ◌≤ℤ◌}
use Rattle.row_store.specs.Problem.{entry}
use Rattle.simplex_frac.proofs.checks.are_right_sides_at_least_0.Given as goal

abbrev pub invariant-loop-line : goal.invariant-loop-line
invariant-loop-line l = (k : ℕ) → k < l.line → pos 0 ≤ℤ entry l.rows k l.rows.columns
