use Rattle.std.proofs.Common.{◌≡◌, ◌+◌, ◌<◌, ℕ, false}
use Rattle.tail_dates.specs.Reaches.{is_maintained}
use Rattle.tail_dates.proofs.reaches.reach.Given as goal

abbrev pub invariant-loop-after : goal.invariant-loop-after
invariant-loop-after l = (k : ℕ) → k < l.after → is_maintained l.nights (l.first + k) ≡ false
