use Rattle.std.proofs.Common.{◌≡◌, ◌≤◌, ◌==◌, slice_index}
use Rattle.sums.specs.Below.{count_below}
use Rattle.tail_dates.proofs.there.count_at.Given as goal

abbrev pub invariant-loop-number : goal.invariant-loop-number
invariant-loop-number l = (l.count ≡ count_below (λ k. slice_index l.places k == l.place) l.number) × (l.count ≤ l.number)
