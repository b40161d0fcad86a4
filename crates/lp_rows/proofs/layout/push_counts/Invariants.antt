use Rattle.std.proofs.Common.{◌≡◌, ◌++◌}
use Rattle.sums.specs.Places.{list_below}
use Rattle.lp_rows.specs.declared.kinds.Line.TheVariants.{Count}
use Rattle.lp_rows.proofs.layout.push_counts.Given as goal

abbrev pub invariant-loop-fleet : goal.invariant-loop-fleet
invariant-loop-fleet l = l.lines.items ≡ l.fn.lines.items ++ list_below Count l.fleet
