use Rattle.std.proofs.Common.{◌≡◌}
use Rattle.lp_rows.specs.Layout.{concat_below}
use Rattle.price_lift.specs.Parts.{weights_at}
use Rattle.price_lift.proofs.weighing.weights.Given as goal

abbrev pub invariant-loop-number : goal.invariant-loop-number
invariant-loop-number l = l.weights.items ≡ concat_below (weights_at l.outline.pairs l.parts) l.number
