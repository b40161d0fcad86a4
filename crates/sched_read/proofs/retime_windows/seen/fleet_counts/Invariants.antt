use Rattle.std.proofs.Common.{◌≡◌}
use Rattle.sums.specs.Places.{list_below}
use Rattle.sched_read.specs.retime_windows.Keys.{fleets_on}
use Rattle.sched_read.proofs.retime_windows.seen.fleet_counts.Given as goal

abbrev pub invariant-loop-leg : goal.invariant-loop-leg
invariant-loop-leg l = l.counts.items ≡ list_below (fleets_on l.tables) l.leg
