use Rattle.std.proofs.Common.{◌≡◌, ◌++◌, map, take}
use Rattle.lp_rows.specs.declared.kinds.Line.TheVariants.{Parking}
use Rattle.lp_rows.proofs.layout.push_parkings.Given as goal

abbrev pub invariant-loop-park : goal.invariant-loop-park
invariant-loop-park l = l.lines.items ≡ l.fn.lines.items ++ map Parking (take l.park-index l.parks)
