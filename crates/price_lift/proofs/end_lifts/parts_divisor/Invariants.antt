use Rattle.std.proofs.Common.{◌≡◌, pos, unsigned_abs}
use Rattle.sums.specs.Divisors.{gcd_below}
use Rattle.frac_row.specs.Row.{number_of}
use Rattle.price_lift.specs.EndLifts.{first_parts}
use Rattle.price_lift.proofs.end_lifts.parts_divisor.Given as goal

abbrev pub invariant-loop-column : goal.invariant-loop-column
invariant-loop-column l = l.divisor ≡ pos (gcd_below l.scale (λ k. unsigned_abs (number_of (first_parts l.point l.scale l.count) k)) l.column)
