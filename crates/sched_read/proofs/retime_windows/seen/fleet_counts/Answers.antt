use Rattle.std.proofs.Common.{◌∙◌}
use Rattle.sums.proofs.Places.{list_below-push}
use Rattle.sched_read.proofs.retime_windows.seen.fleet_counts.Goals as goal

pub loop-leg-preserved : goal.loop-leg-preserved
loop-leg-preserved c = c.in_ok-push.ensures.items ∙ list_below-push _ c.loop-leg.leg _ _ c.loop-leg.invariant c.fleets_on.ensures.value
