use Rattle.cert_check.proofs.MixedCosts.{weighed, weighed_small}
use Rattle.cert_check.proofs.fraction_rules.weighted_cost.Goals as goal

pub returns-clause-value : goal.returns-clause-value
returns-clause-value c = weighed _ _ _ _ c.weight.ensures.value c.weight.ensures.size c.cost_units.ensures.value c.cost_units.ensures.fits

pub returns-clause-size : goal.returns-clause-size
returns-clause-size c = weighed_small _ _ c.weight.ensures.size c.cost_units.ensures.fits
