use Rattle.std.proofs.Common.{◌≡◌, ◌≤◌, ◌-◌, ◌^◌, unsigned_abs}
use Rattle.sums.specs.Below.{sum_below}
use Rattle.row_store.specs.Problem.{entry}
use Rattle.row_store.proofs.checks.is_column_within.Given as goal

abbrev pub invariant-loop-line : goal.invariant-loop-line
invariant-loop-line l = record {
  sum : l.sum ≡ sum_below (λ line. unsigned_abs (entry l.rows line l.column)) l.line;
  within : l.sum ≤ 2 ^ 127 - 1;
}
