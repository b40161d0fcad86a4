use Rattle.std.proofs.Common.{pos, get_or}
use Rattle.std.specs.Prelude.{int_div}
use Rattle.sums.specs.Places.{IsFilledBelow}
use Rattle.frac_row.proofs.lowest_terms.divide_numbers.Given as goal

abbrev pub invariant-loop-column : goal.invariant-loop-column
invariant-loop-column l =
    IsFilledBelow (pos 0) (λ k. int_div (get_or l.initial.numbers k (pos 0)) l.divisor) l.initial.numbers l.numbers l.column
