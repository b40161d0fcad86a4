use Rattle.std.proofs.Common.{◌≡◌, ◌++◌, map, take}
use Rattle.lp_rows.specs.declared.kinds.Column.TheVariants.{Room}
use Rattle.lp_rows.proofs.layout.push_rooms.Given as goal

abbrev pub invariant-loop-park : goal.invariant-loop-park
invariant-loop-park l = l.columns.items ≡ l.fn.columns.items ++ map Room (take l.park-index l.parks)
