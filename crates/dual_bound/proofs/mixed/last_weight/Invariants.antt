use Rattle.std.proofs.Common.{◌≡◌, drop, pos}
use Rattle.dual_bound.specs.Mixed.{weight_after}
use Rattle.dual_bound.proofs.mixed.last_weight.Given as goal

-- the weight after the rest, from the weight so far, is the weight after all
abbrev pub invariant-loop-weight : goal.invariant-loop-weight
invariant-loop-weight l = weight_after (pos 0) l.weights l.pair ≡ weight_after l.last (drop l.weight-index l.weights) l.pair
