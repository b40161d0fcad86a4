use Rattle.std.proofs.Common.{◌≡◌, ◌++◌, ◌+◌, length}
use Rattle.frac_row.specs.Pairs.{pairs_of, combined_entries, AllFit}
use Rattle.frac_row.proofs.sparse_combining.combine_entries.Given as goal

abbrev pub invariant-loop-pair : goal.invariant-loop-pair
invariant-loop-pair l = record {
  made : combined_entries l.factors (pairs_of l.row l.pivot_row) ≡ l.made.items ++ combined_entries l.factors (pairs_of l.pairs.row.now l.pairs.pivot_row.now);
  fits : AllFit l.factors (pairs_of l.pairs.row.now l.pairs.pivot_row.now);
}

abbrev pub decreases-loop-pair : goal.decreases-loop-pair
decreases-loop-pair l = length l.pairs.row.now + length l.pairs.pivot_row.now
