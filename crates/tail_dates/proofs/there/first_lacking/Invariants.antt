use Rattle.std.proofs.Common.{ℕ, ◌<◌}
use Rattle.tail_dates.specs.There.{IsLacking}
use Rattle.tail_dates.proofs.there.first_lacking.Given as goal

abbrev pub invariant-loop-place : goal.invariant-loop-place
invariant-loop-place l = (p : ℕ) → p < l.place → ¬ (IsLacking l.told l.places p)
