use Rattle.std.proofs.Common.{◌*◌, ◌∙◌, arith}
use Rattle.std.proofs.lemmas.Int.{ints}
use Rattle.island_prices.specs.Rounds.{round_number}
use Rattle.dual_bound.proofs.Numbers.{added, one_more}
use Rattle.island_prices.proofs.growing.rent_grown.Goals as goal

pub loop-round-preserved : goal.loop-round-preserved
loop-round-preserved c = record {
  added = added (3 * c.loop-round.round) 3 _ _ _ _ c.loop-round.invariant.size c.number-sum.ensures.size (omega (arith, c.requires.few)) c.loop-round.invariant.added c.number-sum.ensures.value
      ∙ one_more (round_number c.args.rounds.now) c.loop-round.round;
  size = record { no_less = omega (arith, ints, c.number-sum.ensures.size); no_more = omega (arith, ints, c.number-sum.ensures.size) };
}
