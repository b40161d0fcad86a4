use Rattle.std.proofs.Common.{ap, ◌∙◌}
use Rattle.fleet_model.specs.Schedule.{leg_of}
use Rattle.fleet_model.specs.declared.parts.Leg.{Leg}
use Rattle.fleet_model.specs.declared.shifts.Shift.{Shift}
use Rattle.sums.proofs.Places.{list_below-push}
use Rattle.sched_read.specs.retime_windows.Settled.{leg_once, settled_leg, time_of}
use Rattle.sched_read.proofs.retime_windows.settling.settled_legs.Goals as goal

pub loop-leg-preserved : goal.loop-leg-preserved
loop-leg-preserved c =
    let t = c.args.tables.now in
    c.in_ok-push.ensures.items
    ∙ list_below-push (settled_leg t c.args.plan.now) c.loop-leg.leg _ _ c.loop-leg.invariant (
    c.in_ok-leg_once.ensures ∙ ap (λ (leg : Leg). leg_once leg c.time_of.result.dep) c.leg.ensures.value
    ∙ ap (λ (time : Shift). leg_once (leg_of t c.loop-leg.leg) time.dep) (c.time_of.ensures.value ∙ ap (time_of t) c.pair_of.ensures.value))
