use Rattle.dual_bound.proofs.OtherSizes.{worth_sum}
use Rattle.dual_bound.proofs.other_worth.worth_as.Goals as goal

pub returns : goal.returns
returns c = λ u is.
    worth_sum c.args.tables.now c.args.fleet c.args.count u is _ c.args.prices.now c.args.k c.requires.fleet _ _ _ c.total_worth.ensures.size c.fleet_rents.ensures.size c.rents_for.ensures.size
    (rw c.new-prices.ensures at c.total_worth.ensures.value) (rw c.new-prices.ensures at c.fleet_rents.ensures.value) (rw c.new-prices.ensures at c.rents_for.ensures.value)
