use Rattle.price_lift.proofs.lift.lift_refusal.Goals as goal

pub returns-clause-scale : goal.returns-clause-scale
returns-clause-scale g c = c.in_ok-prices.ensures.lifted.lifted.scale

pub returns-clause-prices : goal.returns-clause-prices
returns-clause-prices g c = c.in_ok-prices.ensures.lifted.lifted.paid

pub returns-clause-of_tables : goal.returns-clause-of_tables
returns-clause-of_tables g c = c.in_ok-prices.ensures.lifted.lifted.good.known

pub returns-clause-proper : goal.returns-clause-proper
returns-clause-proper g c = c.in_ok-prices.ensures.lifted.lifted.good.proper

pub returns-clause-in_order : goal.returns-clause-in_order
returns-clause-in_order g c = c.in_ok-prices.ensures.lifted.lifted.good.in_order

pub returns-clause-refutes : goal.returns-clause-refutes
returns-clause-refutes g c = λ each. (c.in_ok-prices.ensures.lifted.refutes each).refute
