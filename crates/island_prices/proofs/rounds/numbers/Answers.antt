use Rattle.std.proofs.Common.{length, ap, rules, ◌∙◌}
use Rattle.std.proofs.lemmas.Int.{to_z-of_z}
use mir.Val.{SFits}
use mir.Syntax.{w128}
use Rattle.sums.proofs.Places.{length-list_below, list_below-push}
use Rattle.fleet_model.specs.Schedule.{stations_in}
use Rattle.island_prices.specs.Rounds.{number_of_round, rise_moments}
use Rattle.island_prices.proofs.rounds.numbers.Goals as goal

pub round_count-round-end-requires : goal.round_count-round-end-requires
round_count-round-end-requires c = ap length c.requires.moments ∙ length-list_below (rise_moments c.args.tables.now c.args.rises.now) (stations_in c.args.tables.now)

pub number-requires-clause-moments : goal.number-requires-clause-moments
number-requires-clause-moments c = ap length c.requires.moments ∙ length-list_below (rise_moments c.args.tables.now c.args.rises.now) (stations_in c.args.tables.now)

pub loop-round-preserved : goal.loop-round-preserved
loop-round-preserved c =
    let fr : SFits w128 c.number.result = search rules in
    c.in_ok-push.ensures.items
    ∙ list_below-push (number_of_round c.args.rises.now c.args.moments.now (stations_in c.args.tables.now)) c.loop-round.round _ _ c.loop-round.invariant (to_z-of_z w128 c.number.result fr ∙ c.number.ensures.value)
