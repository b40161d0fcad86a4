use Rattle.std.proofs.Common.{refl}
use Rattle.plan_rotations.proofs.making.second_of.Goals as goal

pub returns-in_ok-rotated_freely : goal.returns-in_ok-rotated_freely
returns-in_ok-rotated_freely c = rw c.if-wanted.true c.in_ok-rotated_freely.ensures

pub returns-else-wanted : goal.returns-else-wanted
returns-else-wanted c = rw c.if-wanted.false refl
