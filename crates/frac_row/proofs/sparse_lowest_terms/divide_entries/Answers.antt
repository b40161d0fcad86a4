use Rattle.std.proofs.Common.{arith}
use Rattle.sums.proofs.Places.{filled_all}
use Rattle.frac_row.proofs.CommonDivisors.{all_divided}
use Rattle.frac_row.proofs.sparse_lowest_terms.divide_entries.Goals as goal

pub returns : goal.returns
returns c = all_divided _ _ _ (filled_all _ _ _ _ _ c.loop-place.invariant (omega arith))
