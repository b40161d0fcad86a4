use Rattle.std.proofs.Common.{◌*◌, ◌∙◌, arith}
use Rattle.std.proofs.lemmas.Int.{ints}
use Rattle.island_prices.specs.Rises.{shift_at}
use Rattle.dual_bound.proofs.Numbers.{added, one_more}
use Rattle.island_prices.proofs.rises.shift_by.Goals as goal

pub loop-place-preserved : goal.loop-place-preserved
loop-place-preserved c = record {
  added = added (3 * c.loop-place.place) 3 _ _ _ _ c.loop-place.invariant.size c.shift_at-sum.ensures.size (omega (arith, c.requires.few)) c.loop-place.invariant.added c.shift_at-sum.ensures.value
      ∙ one_more (shift_at c.args.rises.now c.args.fleet c.args.station c.args.minute) c.loop-place.place;
  size = record { no_less = omega (arith, ints, c.shift_at-sum.ensures.size); no_more = omega (arith, ints, c.shift_at-sum.ensures.size) };
}
