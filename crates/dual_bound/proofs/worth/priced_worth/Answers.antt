use Rattle.std.proofs.Common.{arith}
use Rattle.std.proofs.lemmas.Int.{ints}
use Rattle.dual_bound.proofs.Numbers.{three_added}
use Rattle.dual_bound.proofs.ScaledCosts.{priced_worth}
use Rattle.dual_bound.proofs.worth.priced_worth.Goals as goal

pub overflow_add-result-2 : goal.overflow_add-result-2
overflow_add-result-2 c = omega (arith, ints)

pub returns-clause-value : goal.returns-clause-value
returns-clause-value c =
    priced_worth c.args.tables.now c.args.prices.now c.args.k c.args.pair c.args.fleet _ c.requires.pair c.requires.by c.requires.flown (three_added 3 2 2 _ _ _ _ _ _ c.scaled_cost.ensures.size c.price_fall.ensures.size c.lap_rents.ensures.size (omega arith)
    (rw c.scale.ensures at c.scaled_cost.ensures.value) c.price_fall.ensures.value c.lap_rents.ensures.value)

pub returns-clause-size : goal.returns-clause-size
returns-clause-size c = record { no_less = omega (arith, ints); no_more = omega (arith, ints) }
