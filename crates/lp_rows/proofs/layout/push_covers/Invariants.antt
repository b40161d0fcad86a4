use Rattle.std.proofs.Common.{◌≡◌, ◌++◌}
use Rattle.sums.specs.Places.{list_below}
use Rattle.lp_rows.specs.declared.kinds.Line.TheVariants.{Cover}
use Rattle.lp_rows.proofs.layout.push_covers.Given as goal

abbrev pub invariant-loop-leg : goal.invariant-loop-leg
invariant-loop-leg l = l.lines.items ≡ l.fn.lines.items ++ list_below Cover l.leg
