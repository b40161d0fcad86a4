use Rattle.std.proofs.Common.{length, ap, ◌∙◌, arith}
use Rattle.fleet_model.specs.Counts.{pair_at}
use Rattle.fleet_model.specs.Schedule.{fleet_by}
use Rattle.sums.proofs.Places.{length-list_below, list_below-push}
use Rattle.sched_read.proofs.retime_windows.settling.settled_plan.Goals as goal

pub push-requires : goal.push-requires
push-requires c =
    let t = c.args.tables.now in
    omega (
      arith,
      ap length c.loop-leg.invariant,
      length-list_below (λ k. fleet_by t (pair_at c.args.plan.now k)) c.loop-leg.leg,
      c.loop-leg-test.true,
      c.leg_count-leg-end.ensures,
      t.in_range.legs_fit.few,
    )

pub loop-leg-preserved : goal.loop-leg-preserved
loop-leg-preserved c =
    let t = c.args.tables.now in
    c.push.ensures ∙ list_below-push (λ k. fleet_by t (pair_at c.args.plan.now k)) c.loop-leg.leg _ _ c.loop-leg.invariant (c.fleet_by.ensures.value ∙ ap (fleet_by t) c.pair_of.ensures.value)
