use Rattle.std.proofs.Common.{◌≡◌, ◌+◌, ◌-◌, arith, rules, ◌∙◌, ap, neg_ℤ, get_or, pos, length}
use Rattle.std.proofs.lemmas.Int.{to_z-of_z}
use mir.Val.{SFits}
use mir.Syntax.{w128}
use Rattle.sums.proofs.Places.{list_below-push}
use Rattle.price_lift.proofs.pricing.rents.Goals as goal

pub loop-fleet-preserved : goal.loop-fleet-preserved
loop-fleet-preserved c =
    let fr : SFits w128 c.opposite.result = search rules in
    let place : c.count_line.result - c.first_priced_line.result ≡ length c.args.outline.now.nodes + c.loop-fleet.fleet = omega (arith, c.count_line.ensures.place, c.first_priced_line.ensures) in
    c.in_ok-push.ensures.items
    ∙ list_below-push (λ f. neg_ℤ (get_or c.args.values.now (length c.args.outline.now.nodes + f) (pos 0))) c.loop-fleet.fleet _ _ c.loop-fleet.invariant
    (to_z-of_z w128 c.opposite.result fr ∙ c.opposite.ensures ∙ ap (λ k. neg_ℤ (get_or c.args.values.now k (pos 0))) place)
