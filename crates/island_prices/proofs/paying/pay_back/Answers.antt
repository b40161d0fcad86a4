use Rattle.std.proofs.Common.{◌≡◌, ◌∙◌, [], ap, sym, subst, length, rules}
use Rattle.std.proofs.lemmas.Int.{to_z-of_z}
use mir.Val.{SFits, of_z, to_z}
use mir.Syntax.{w128}
use Rattle.fleet_model.specs.Schedule.{stations_in}
use Rattle.island_prices.specs.Rounds.{AreSmall}
use Rattle.island_prices.proofs.TakenMoments.{are_small, moments_long}
use Rattle.island_prices.proofs.PaidRows.{paid_from}
use Rattle.island_prices.proofs.paying.pay_back.Goals as goal

pub steps-requires-clause-rounds : goal.steps-requires-clause-rounds
steps-requires-clause-rounds c = subst AreSmall (sym c.in_ok-rounds.ensures) (are_small c.args.tables.now c.args.rises.now c.requires.rises c.args.least c.requires.least)

pub steps-requires-clause-stations : goal.steps-requires-clause-stations
steps-requires-clause-stations c = subst (λ r. length r.moments ≡ stations_in c.args.tables.now) (sym c.in_ok-rounds.ensures) (moments_long c.args.tables.now c.args.rises.now c.requires.rises c.args.least)

pub rents-requires-clause-rounds : goal.rents-requires-clause-rounds
rents-requires-clause-rounds c = subst AreSmall (sym c.in_ok-rounds.ensures) (are_small c.args.tables.now c.args.rises.now c.requires.rises c.args.least c.requires.least)

pub returns : goal.returns
returns c =
    let fs : SFits w128 c.args.prices.now.scale = search rules in
    let empty : c.from_vec-3.result ≡ [] = c.from_vec-3.ensures ∙ c.new-3.ensures.items in
    let paid =
    paid_from c.args.tables.now c.args.prices.now c.new-2.result c.args.rises.now c.args.least c.in_ok-rounds.rounds _ _ _ c.new-2.ensures c.in_ok-rounds.ensures (to_z-of_z w128 c.args.prices.now.scale fs)
    (c.from_vec.ensures ∙ c.in_ok-rents.ensures) (c.in_ok-steps.ensures.steps.0, c.from_vec-2.ensures ∙ c.in_ok-steps.ensures.steps.1) in
    (paid.0, ap (λ charges. record { scale = to_z w128 (of_z w128 c.args.prices.now.scale); rents = c.from_vec.result; steps = c.from_vec-2.result; charges = charges }) empty ∙ paid.1)
