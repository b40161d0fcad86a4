use Rattle.std.proofs.Common.{◌≡◌, pos, unsigned_abs}
use Rattle.sums.specs.Divisors.{gcd_below}
use Rattle.frac_row.specs.Content.{number_at}
use Rattle.frac_row.proofs.sparse_lowest_terms.divisor_of.Given as goal

abbrev pub invariant-loop-entry : goal.invariant-loop-entry
invariant-loop-entry l = l.divisor ≡ pos (gcd_below (unsigned_abs l.den) (λ k. unsigned_abs (number_at l.entries k)) l.entry-index)
