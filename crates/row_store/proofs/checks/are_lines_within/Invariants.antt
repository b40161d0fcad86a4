use Rattle.std.proofs.Common.{◌≡◌, ◌≤◌, ◌-◌, ◌^◌}
use Rattle.sums.specs.Below.{sum_below}
use Rattle.row_store.proofs.LineSums.{line_sizes}
use Rattle.row_store.proofs.checks.are_lines_within.Given as goal

abbrev pub invariant-loop-line : goal.invariant-loop-line
invariant-loop-line l = record {
  sum : l.sum ≡ sum_below (line_sizes l.rows) l.line;
  within : l.sum ≤ 2 ^ 127 - 1;
}
