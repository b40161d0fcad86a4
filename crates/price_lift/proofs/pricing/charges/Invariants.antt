use Rattle.std.proofs.Common.{◌≡◌}
use Rattle.lp_rows.specs.Layout.{concat_below}
use Rattle.price_lift.specs.Steps.{charge_in}
use Rattle.price_lift.proofs.pricing.charges.Given as goal

abbrev pub invariant-loop-number : goal.invariant-loop-number
invariant-loop-number l = l.charges.items ≡ concat_below (charge_in l.outline l.values) l.number
