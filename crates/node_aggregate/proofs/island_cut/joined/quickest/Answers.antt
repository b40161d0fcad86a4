use Rattle.std.proofs.Common.{◌≡◌, arith}
use Rattle.fleet_model.specs.Schedule.{legs_in}
use Rattle.node_aggregate.proofs.island_cut.QuickestFleets.{one_quickest_more}
use Rattle.node_aggregate.proofs.island_cut.joined.quickest.Goals as goal

pub loop-leg-preserved : goal.loop-leg-preserved
loop-leg-preserved c =
    let more = one_quickest_more c.args.tables.now c.loop-leg.leg c.loop-leg.plan c.push.new.self c.quickest_on.result c.push.ensures c.loop-leg.invariant.each_leg c.loop-leg.invariant.each c.quickest_on.ensures in
    record { each_leg = more.0; each = more.1 }

pub returns-clause-quickest : goal.returns-clause-quickest
returns-clause-quickest c =
    let all : c.loop-leg.leg ≡ legs_in c.args.tables.now = omega (arith, c.loop-leg-test.false, c.loop-leg.auto.leg-end, c.leg_count-leg-end.ensures) in
    record { each = λ l below. c.loop-leg.invariant.each l (omega (arith, below, all)) }
