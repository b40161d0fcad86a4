use Rattle.std.proofs.Common.{◌*◌, ◌∙◌, arith}
use Rattle.std.proofs.lemmas.Int.{ints}
use Rattle.island_prices.specs.Rounds.{grown_in}
use Rattle.dual_bound.proofs.Numbers.{added, one_more}
use Rattle.island_prices.proofs.growing.price_grown.Goals as goal

pub loop-round-preserved : goal.loop-round-preserved
loop-round-preserved c = record {
  added = added (3 * c.loop-round.round) 3 _ _ _ _ c.loop-round.invariant.size c.grown_in-sum.ensures.size (omega (arith, c.requires.rounds.few)) c.loop-round.invariant.added c.grown_in-sum.ensures.value
      ∙ one_more (grown_in c.args.rounds.now c.args.station c.args.minute) c.loop-round.round;
  size = record { no_less = omega (arith, ints, c.grown_in-sum.ensures.size); no_more = omega (arith, ints, c.grown_in-sum.ensures.size) };
}
