use Rattle.std.proofs.Common.{◌≡◌}
use Rattle.sums.specs.Places.{list_below}
use Rattle.sched_read.specs.retime_windows.Settled.{settled_leg}
use Rattle.sched_read.proofs.retime_windows.settling.settled_legs.Given as goal

abbrev pub invariant-loop-leg : goal.invariant-loop-leg
invariant-loop-leg l = l.legs.items ≡ list_below (settled_leg l.tables l.plan) l.leg
