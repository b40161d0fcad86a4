use Rattle.std.proofs.Common.{◌≡◌, slice_index}
use Rattle.sums.specs.Places.{list_below}
use Rattle.tail_dates.specs.There.{key}
use Rattle.tail_dates.proofs.there.keys.Given as goal

abbrev pub invariant-loop-place : goal.invariant-loop-place
invariant-loop-place l = l.keys.items ≡ list_below (λ k. key (slice_index l.places k) (slice_index l.numbers k)) l.place
