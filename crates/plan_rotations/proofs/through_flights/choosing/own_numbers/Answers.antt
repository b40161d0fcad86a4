use Rattle.std.proofs.Common.{◌≡◌, ◌∙◌, length, ap, arith, rules}
use Rattle.std.proofs.lemmas.Int.{to_z-of_z}
use mir.Val.{SFits}
use mir.Syntax.{w128}
use Rattle.sums.specs.Places.{list_below}
use Rattle.sums.proofs.Places.{list_below-push}
use Rattle.plan_rotations.specs.through_flights.Chosen.{own_number}
use Rattle.plan_rotations.proofs.through_flights.choosing.own_numbers.Goals as goal

pub loop-leg-preserved : goal.loop-leg-preserved
loop-leg-preserved c =
    let f : SFits w128 c.own_number.result = search rules in
    c.in_ok-push.ensures.items ∙ list_below-push _ c.loop-leg.leg _ _ c.loop-leg.invariant (to_z-of_z w128 c.own_number.result f ∙ c.own_number.ensures)

pub returns : goal.returns
returns c =
    let all : c.loop-leg.leg ≡ length c.args.plan.now = omega (arith, c.loop-leg-test.false, c.loop-leg.auto.leg-end, c.len-leg-end.ensures) in
    c.from_vec.ensures ∙ c.loop-leg.invariant ∙ ap (list_below (own_number c.args.plan.now c.args.fleet c.args.duals.now c.args.less)) all
