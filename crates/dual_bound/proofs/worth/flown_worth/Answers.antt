use Rattle.std.proofs.Common.{sym, subst, arith}
use Rattle.dual_bound.specs.Prices.{IsScale}
use Rattle.dual_bound.proofs.ScaledCosts.{pair_held, idle_worth, cost_as_pair, worth_held}
use Rattle.dual_bound.proofs.worth.flown_worth.Goals as goal

pub scaled_cost-requires-clause-scale : goal.scaled_cost-requires-clause-scale
scaled_cost-requires-clause-scale c = subst (λ z. IsScale z) (sym c.scale.ensures) c.requires.scale

pub returns-then-is_idle-clause-value : goal.returns-then-is_idle-clause-value
returns-then-is_idle-clause-value c =
    idle_worth c.args.tables.now c.args.prices.now c.args.k c.args.pair c.args.fleet c.scale.result.now c.scaled_cost.result c.requires.pair c.requires.by c.requires.flown (c.is_idle.ensures c.if-is_idle.true)
    c.scale.ensures c.scaled_cost.ensures.value c.scaled_cost.ensures.size

pub returns-then-is_idle-clause-size : goal.returns-then-is_idle-clause-size
returns-then-is_idle-clause-size c = cost_as_pair c.scaled_cost.result c.scaled_cost.ensures.size

pub returns-clause-value : goal.returns-clause-value
returns-clause-value c = worth_held 7 c.priced_worth.result _ c.priced_worth.ensures.size (omega arith) c.priced_worth.ensures.value

pub returns-clause-size : goal.returns-clause-size
returns-clause-size c = pair_held c.priced_worth.result c.priced_worth.ensures.size
