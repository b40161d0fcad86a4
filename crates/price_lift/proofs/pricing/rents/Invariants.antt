use Rattle.std.proofs.Common.{◌≡◌, ◌+◌, neg_ℤ, slice_index_or, pos, length}
use Rattle.sums.specs.Places.{list_below}
use Rattle.price_lift.proofs.pricing.rents.Given as goal

abbrev pub invariant-loop-fleet : goal.invariant-loop-fleet
invariant-loop-fleet l = l.rents.items ≡ list_below (λ f. neg_ℤ (slice_index_or l.values (length l.outline.nodes + f) (pos 0))) l.fleet
