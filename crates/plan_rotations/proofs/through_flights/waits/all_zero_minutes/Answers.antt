use Rattle.std.proofs.Common.{◌∙◌}
use Rattle.sums.proofs.Places.{list_below-push}
use Rattle.plan_rotations.proofs.through_flights.waits.all_zero_minutes.Goals as goal

pub loop-station-preserved : goal.loop-station-preserved
loop-station-preserved c = c.in_ok-push.ensures.items ∙ list_below-push _ c.loop-station.station _ _ c.loop-station.invariant c.in_ok-zero_minutes.ensures
