use Rattle.dual_bound.proofs.ScaledCosts.{not_at_all, once, product_fits, product_up_to, zero_size}
use Rattle.dual_bound.proofs.worth.scaled_cost.Goals as goal

pub returns-then-k-eq0-clause-value : goal.returns-then-k-eq0-clause-value
returns-then-k-eq0-clause-value c = not_at_all c.args.k c.args.scale.now _ c.if-k-eq0.true

pub returns-then-k-eq0-clause-size : goal.returns-then-k-eq0-clause-size
returns-then-k-eq0-clause-size c = zero_size

pub overflow_mul-result : goal.overflow_mul-result
overflow_mul-result c = product_fits c.args.scale.now c.cost_units.result c.requires.scale c.cost_units.ensures.fits

pub returns-clause-value : goal.returns-clause-value
returns-clause-value c = once c.args.k c.args.scale.now c.cost_units.result _ c.requires.k c.if-k-eq0.false c.requires.scale c.cost_units.ensures.fits c.cost_units.ensures.value

pub returns-clause-size : goal.returns-clause-size
returns-clause-size c = product_up_to c.args.scale.now c.cost_units.result c.requires.scale c.cost_units.ensures.fits
