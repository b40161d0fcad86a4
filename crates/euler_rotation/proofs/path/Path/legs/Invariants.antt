use Rattle.std.proofs.Common.{◌≡◌, take}
use Rattle.euler_rotation.proofs.Marks.{legs_in_order}
use Rattle.euler_rotation.proofs.path.Path.legs.Given as goal

abbrev pub invariant-loop-level : goal.invariant-loop-level
invariant-loop-level l = l.legs.items ≡ legs_in_order (take l.level-index l.level-items)
