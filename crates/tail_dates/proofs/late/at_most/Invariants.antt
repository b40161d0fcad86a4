use Rattle.std.proofs.Common.{◌≡◌, ◌≤◌, nat_le, slice_index}
use Rattle.sums.specs.Below.{count_below}
use Rattle.tail_dates.proofs.late.at_most.Given as goal

abbrev pub invariant-loop-place : goal.invariant-loop-place
invariant-loop-place l = (l.count ≡ count_below (λ k. nat_le (slice_index l.numbers k) l.most) l.place) × (l.count ≤ l.place)
