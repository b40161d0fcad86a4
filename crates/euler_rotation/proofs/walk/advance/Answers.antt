use Rattle.std.proofs.Common.{sym}
use Rattle.euler_rotation.specs.Walks.{pending_in}
use Rattle.euler_rotation.proofs.WalkSteps.{entered}
use Rattle.euler_rotation.proofs.walk.advance.Goals as goal

pub returns-in-Some-next_level : goal.returns-in-Some-next_level
returns-in-Some-next_level c =
    entered c.args.field.now c.loop-top.walk c.enter.new.walk c.in-Some.top c.in-Some-next_level.level c.loop-top.from (pending_in c.args.field.now c.args.walk.now.path 0)
    c.loop-top.invariant.walk (sym c.in-Some.ensures) c.loop-top.invariant.same c.in-Some-next_level.ensures c.in_ok-enter.ensures.path c.in_ok-enter.ensures.used
