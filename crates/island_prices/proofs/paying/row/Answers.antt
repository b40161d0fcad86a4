use Rattle.std.proofs.Common.{◌≡◌, arith, rules, subst, ◌∙◌}
use Rattle.std.proofs.lemmas.Int.{to_z-of_z}
use mir.Val.{SFits}
use mir.Syntax.{w128}
use Rattle.sums.specs.Places.{list_below}
use Rattle.sums.proofs.Places.{list_below-push}
use Rattle.fleet_model.specs.Schedule.{period_of}
use Rattle.island_prices.specs.Paid.{paid_price}
use Rattle.island_prices.proofs.paying.row.Goals as goal

pub loop-minute-preserved : goal.loop-minute-preserved
loop-minute-preserved c =
    let fr : SFits w128 c.paid_price.result = search rules in
    c.in_ok-push.ensures.items
    ∙ list_below-push (paid_price c.args.paid.now.before c.args.paid.now.rises.now c.args.paid.now.rounds.now c.args.fleet c.args.station) c.loop-minute.minute _ _ c.loop-minute.invariant
    (to_z-of_z w128 c.paid_price.result fr ∙ c.paid_price.ensures)

pub returns : goal.returns
returns c =
    let all : c.loop-minute.minute ≡ period_of c.args.tables.now = omega (arith, c.loop-minute-test.false, c.loop-minute.auto.minute-end, c.period-minute-end.ensures.value) in
    subst (λ n. c.loop-minute.row.items ≡ list_below (paid_price c.args.paid.now.before c.args.paid.now.rises.now c.args.paid.now.rounds.now c.args.fleet c.args.station) n) all c.loop-minute.invariant
