use Rattle.std.proofs.Common.{◌≡◌}
use Rattle.tail_dates.specs.There.{those_below}
use Rattle.tail_dates.proofs.there.those_at.Given as goal

abbrev pub invariant-loop-number : goal.invariant-loop-number
invariant-loop-number l = l.those.items ≡ those_below l.places l.numbers l.place l.number
