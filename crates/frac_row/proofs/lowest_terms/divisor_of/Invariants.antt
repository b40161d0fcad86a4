use Rattle.std.proofs.Common.{◌≡◌, pos, unsigned_abs}
use Rattle.sums.specs.Divisors.{gcd_below}
use Rattle.frac_row.specs.Row.{number_of}
use Rattle.frac_row.proofs.lowest_terms.divisor_of.Given as goal

abbrev pub invariant-loop-number : goal.invariant-loop-number
invariant-loop-number l = l.divisor ≡ pos (gcd_below (unsigned_abs l.row.den) (λ column. unsigned_abs (number_of l.row column)) l.number-index)
