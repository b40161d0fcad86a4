use Rattle.std.proofs.Common.{◌≡◌, ◌+◌, length}
use Rattle.frac_row.specs.Pairs.{pairs_of, first_growth}
use Rattle.frac_row.proofs.sparse_growth.first_growth.Given as goal

abbrev pub invariant-loop-pair : goal.invariant-loop-pair
invariant-loop-pair l =
    first_growth l.factors (pairs_of l.row l.pivot_row) ≡ first_growth l.factors (pairs_of l.pairs.row.now l.pairs.pivot_row.now)

abbrev pub decreases-loop-pair : goal.decreases-loop-pair
decreases-loop-pair l = length l.pairs.row.now + length l.pairs.pivot_row.now
