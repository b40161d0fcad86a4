use Rattle.std.proofs.Common.{pos, get_or, neg_ℤ}
use Rattle.sums.specs.Places.{IsFilledBelow}
use Rattle.row_store.proofs.turning.turn_numbers.Given as goal

abbrev pub invariant-loop-column : goal.invariant-loop-column
invariant-loop-column l =
    IsFilledBelow (pos 0) (λ k. neg_ℤ (get_or l.initial.numbers k (pos 0))) l.initial.numbers l.numbers l.column
