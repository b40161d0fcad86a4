use Rattle.std.proofs.Common.{◌≡◌, pos}
use Rattle.sums.specs.Places.{list_below}
use Rattle.simplex_frac.specs.end_check.Ends.{part_in}
use Rattle.price_lift.proofs.end_lifts.first_parts.Given as goal

abbrev pub invariant-loop-column : goal.invariant-loop-column
invariant-loop-column l = l.numbers.items ≡ list_below (λ column. pos (part_in l.fn.point column)) l.column
