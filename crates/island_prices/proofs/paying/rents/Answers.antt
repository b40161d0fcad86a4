use Rattle.std.proofs.Common.{rules, ◌∙◌}
use Rattle.std.proofs.lemmas.Int.{to_z-of_z}
use mir.Val.{SFits}
use mir.Syntax.{w128}
use Rattle.sums.proofs.Places.{list_below-push}
use Rattle.island_prices.specs.Paid.{paid_rent}
use Rattle.island_prices.proofs.paying.rents.Goals as goal

pub loop-fleet-preserved : goal.loop-fleet-preserved
loop-fleet-preserved c =
    let fr : SFits w128 c.paid_rent.result = search rules in
    c.in_ok-push.ensures.items
    ∙ list_below-push (paid_rent c.args.paid.now.before c.args.paid.now.rounds.now) c.loop-fleet.fleet _ _ c.loop-fleet.invariant (to_z-of_z w128 c.paid_rent.result fr ∙ c.paid_rent.ensures)
