use Rattle.std.proofs.Common.{◌*◌, length, arith}
use Rattle.island_prices.specs.Paid.{paid_rent}
use Rattle.island_prices.proofs.Numbers.{both_added}
use Rattle.island_prices.proofs.paying.paid_rent.Goals as goal

pub returns : goal.returns
unfolding paid_rent
returns c = both_added 1 (3 * length c.args.paid.now.rounds.now.numbers) _ _ _ _ c.rent.ensures.size c.rent_grown.ensures.size (omega (arith, c.requires.rounds.few)) c.rent.ensures.value c.rent_grown.ensures.value
