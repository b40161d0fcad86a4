use Rattle.std.proofs.Common.{◌≡◌, true, slice_index_or, pos}
use Rattle.price_lift.specs.Steps.{are_zero}
use Rattle.price_lift.proofs.stepping.are_zero.Given as goal

abbrev pub invariant-loop-past : goal.invariant-loop-past
invariant-loop-past l = are_zero (λ k. slice_index_or l.values k (pos 0)) l.from l.past ≡ true
