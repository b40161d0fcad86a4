use Rattle.std.proofs.Common.{◌≡◌, length, slice_index, ◌∙◌, ap, arith}
use Rattle.sums.proofs.Places.{get_or-list_below, length-list_below, list_below-push}
use Rattle.fleet_model.specs.Schedule.{legs_in}
use Rattle.lines_of_flying.specs.Grounds.{place_of_departure}
use Rattle.lines_of_flying.proofs.places.departure_places.Goals as goal

pub loop-leg-preserved : goal.loop-leg-preserved
loop-leg-preserved c =
    c.in_ok-push.ensures.items ∙ list_below-push (place_of_departure c.args.ground.now) c.loop-leg.leg c.loop-leg.places.items c.place_of.result c.loop-leg.invariant c.place_of.ensures.value

pub returns-clause-each_leg : goal.returns-clause-each_leg
returns-clause-each_leg c =
    let all : c.loop-leg.leg ≡ legs_in c.args.ground.now.tables.now = omega (arith, c.loop-leg-test.false, c.loop-leg.auto.leg-end, c.leg_count-leg-end.ensures) in
    ap length c.loop-leg.invariant ∙ length-list_below (place_of_departure c.args.ground.now) c.loop-leg.leg ∙ all

pub returns-clause-each : goal.returns-clause-each
returns-clause-each c l below =
    ap (λ places. slice_index places l) c.loop-leg.invariant
    ∙ get_or-list_below (place_of_departure c.args.ground.now) c.loop-leg.leg l 0 (omega (arith, below, c.loop-leg-test.false, c.leg_count-leg-end.ensures))
