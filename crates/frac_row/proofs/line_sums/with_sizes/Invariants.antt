use Rattle.std.proofs.Common.{◌≡◌, ◌+◌, ◌-◌, ◌≤◌, ◌^◌, length}
use Rattle.frac_row.specs.Lines.{sizes_of}
use Rattle.frac_row.proofs.line_sums.with_sizes.Given as goal

abbrev pub invariant-loop-entry : goal.invariant-loop-entry
invariant-loop-entry l = record {
  sum : l.total + sizes_of l.left ≡ l.sum + sizes_of l.initial.left;
  within : l.total ≤ 2 ^ 127 - 1;
}

abbrev pub decreases-loop-entry : goal.decreases-loop-entry
decreases-loop-entry l = length l.left
