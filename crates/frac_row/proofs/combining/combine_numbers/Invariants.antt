use Rattle.std.proofs.Common.{pos, get_or}
use Rattle.sums.specs.Places.{IsFilledBelow}
use Rattle.frac_row.specs.Combined.{combined_number}
use Rattle.frac_row.proofs.combining.combine_numbers.Given as goal

abbrev pub invariant-loop-column : goal.invariant-loop-column
invariant-loop-column l =
    IsFilledBelow (pos 0) (λ k. combined_number l.factors (get_or l.initial.numbers k (pos 0)) (get_or l.pivot_numbers k (pos 0))) l.initial.numbers l.numbers l.column
