use Rattle.std.proofs.Common.{◌≡◌, pos, unsigned_abs, get_or}
use Rattle.sums.specs.Divisors.{gcd_below}
use Rattle.simplex_frac.proofs.dual_lift.lowest_terms.divisor_of.Given as goal

abbrev pub invariant-loop-value : goal.invariant-loop-value
invariant-loop-value l = l.divisor ≡ pos (gcd_below (unsigned_abs l.scale) (λ place. unsigned_abs (get_or l.values place (pos 0))) l.value-index)
