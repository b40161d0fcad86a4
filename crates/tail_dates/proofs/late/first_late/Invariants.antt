use Rattle.std.proofs.Common.{ℕ, ◌<◌}
use Rattle.tail_dates.specs.Late.{IsLateAt}
use Rattle.tail_dates.proofs.late.first_late.Given as goal

abbrev pub invariant-loop-within : goal.invariant-loop-within
invariant-loop-within l = (nights : ℕ) → nights < l.within → ¬ (IsLateAt l.lefts l.reaches nights)
