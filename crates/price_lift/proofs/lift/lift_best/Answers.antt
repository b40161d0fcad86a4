use Rattle.price_lift.proofs.lift.lift_best.Goals as goal

pub returns-clause-scale : goal.returns-clause-scale
returns-clause-scale g c = c.in_ok-prices.ensures.lifted.prices.scale

pub returns-clause-prices : goal.returns-clause-prices
returns-clause-prices g c = c.in_ok-prices.ensures.lifted.prices.paid

pub returns-clause-of_tables : goal.returns-clause-of_tables
returns-clause-of_tables g c = c.in_ok-prices.ensures.lifted.prices.good.known

pub returns-clause-proper : goal.returns-clause-proper
returns-clause-proper g c = c.in_ok-prices.ensures.lifted.prices.good.proper

pub returns-clause-in_order : goal.returns-clause-in_order
returns-clause-in_order g c = c.in_ok-prices.ensures.lifted.prices.good.in_order

pub returns-clause-weights : goal.returns-clause-weights
returns-clause-weights g c = c.in_ok-prices.ensures.lifted.weights

pub returns-clause-known : goal.returns-clause-known
returns-clause-known g c = c.in_ok-prices.ensures.lifted.best.known

pub returns-clause-weights_in_order : goal.returns-clause-weights_in_order
returns-clause-weights_in_order g c = c.in_ok-prices.ensures.lifted.best.in_order

pub returns-clause-plan : goal.returns-clause-plan
returns-clause-plan g c = c.in_ok-prices.ensures.lifted.best.mixed_at

pub returns-clause-value : goal.returns-clause-value
returns-clause-value g c = c.in_ok-prices.ensures.lifted.best.value
