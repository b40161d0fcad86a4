use Rattle.std.proofs.Common.{◌≡◌, ◌++◌, map, take}
use Rattle.lp_rows.specs.Outline.{arc_in}
use Rattle.lp_rows.proofs.layout.push_grounds.Given as goal

abbrev pub invariant-loop-number : goal.invariant-loop-number
invariant-loop-number l = l.columns.items ≡ l.fn.columns.items ++ map (arc_in l.outline) (take l.number-index l.outline.arcs)
