use Rattle.std.proofs.Common.{◌*◌, length, arith}
use Rattle.island_prices.specs.Paid.{paid_price}
use Rattle.dual_bound.proofs.Numbers.{three_added}
use Rattle.island_prices.proofs.paying.paid_price.Goals as goal

pub returns : goal.returns
unfolding paid_price
returns c =
    three_added 1 (3 * length c.args.paid.now.rises.now) (3 * length c.args.paid.now.rounds.now.numbers) _ _ _ _ _ _ c.price.ensures.size c.shift_by.ensures.size c.price_grown.ensures.size (omega (arith, c.requires.rises.few, c.requires.rounds.few))
    c.price.ensures.value c.shift_by.ensures.value c.price_grown.ensures.value
