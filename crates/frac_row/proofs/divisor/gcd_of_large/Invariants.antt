use Rattle.std.proofs.Common.{◌≡◌}
use Rattle.sums.specs.Divisors as divisors
use Rattle.frac_row.proofs.divisor.gcd_of_large.Given as goal

abbrev pub invariant-loop-right : goal.invariant-loop-right
invariant-loop-right l = divisors.gcd l.left l.right ≡ divisors.gcd l.a l.b

abbrev pub decreases-loop-right : goal.decreases-loop-right
decreases-loop-right l = l.right
