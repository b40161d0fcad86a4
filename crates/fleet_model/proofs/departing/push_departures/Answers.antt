use Rattle.std.proofs.Common.{◌∙◌}
use Rattle.fleet_model.proofs.Departures.{listed_more}
use Rattle.fleet_model.proofs.departing.push_departures.Goals as goal

pub loop-slot-preserved : goal.loop-slot-preserved
loop-slot-preserved c = c.in_ok-push.ensures.items ∙ listed_more _ c.loop-slot.slot _ _ c.loop-slot.invariant
