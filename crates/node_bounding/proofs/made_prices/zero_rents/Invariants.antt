use Rattle.std.proofs.Common.{◌≡◌, pos}
use Rattle.sums.specs.Places.{list_below}
use Rattle.node_bounding.proofs.made_prices.zero_rents.Given as goal

abbrev pub invariant-loop : goal.invariant-loop
invariant-loop l = l.rents.items ≡ list_below (λ f. pos 0) l.counter
