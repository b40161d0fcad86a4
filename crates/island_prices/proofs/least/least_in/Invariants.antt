use Rattle.std.proofs.Common.{◌≡◌, length}
use Rattle.island_prices.specs.Least.{least_in}
use Rattle.island_prices.proofs.least.least_in.Given as goal

abbrev pub invariant-loop-entry : goal.invariant-loop-entry
invariant-loop-entry l = least_in l.left l.station ≡ least_in l.idle l.station

abbrev pub decreases-loop-entry : goal.decreases-loop-entry
decreases-loop-entry l = length l.left
