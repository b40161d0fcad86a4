use Rattle.std.proofs.Common.{arith}
use Rattle.dual_bound.proofs.Numbers.{taken}
use Rattle.island_prices.proofs.rising.inside.Goals as goal

pub returns : goal.returns
returns c = taken 1 1 _ _ _ _ c.price.ensures.size c.price-2.ensures.size (omega arith) c.price.ensures.value c.price-2.ensures.value
