use Rattle.std.proofs.Common.{◌≡◌}
use Rattle.sums.specs.Places.{list_below}
use Rattle.lines_of_flying.proofs.cycle_join.labels.own_labels.Given as goal

abbrev pub invariant-loop-leg : goal.invariant-loop-leg
invariant-loop-leg l = l.labels.items ≡ list_below (λ k. k) l.leg
