use Rattle.std.proofs.Common.{ℕ, ◌<◌}
use Rattle.tail_dates.specs.Late.{IsNeverLate}
use Rattle.tail_dates.specs.There.{those_at}
use Rattle.tail_dates.proofs.there.first_late_there.Given as goal

abbrev pub invariant-loop-place : goal.invariant-loop-place
invariant-loop-place l = (p : ℕ) → p < l.place → IsNeverLate (those_at l.told l.lefts p) (those_at l.places l.reaches p)
