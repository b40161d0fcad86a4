use Rattle.std.proofs.Common.{◌∙◌, sym, subst, arith}
use Rattle.fleet_model.specs.declared.limits.TheConstants.{MAX_AIRCRAFT}
use Rattle.dual_bound.specs.Sizes.{IsUpTo}
use Rattle.dual_bound.proofs.Numbers.{is_held}
use Rattle.dual_bound.proofs.worth.fleet_rents.Goals as goal

pub rents_for-requires-clause-count : goal.rents_for-requires-clause-count
rents_for-requires-clause-count c = c.fleet.ensures.fits.aircraft

pub returns-clause-value : goal.returns-clause-value
returns-clause-value c = is_held MAX_AIRCRAFT _ c.rents_for.ensures.size (omega arith) ∙ (rw c.fleet.ensures.value at c.rents_for.ensures.value)

pub returns-clause-size : goal.returns-clause-size
returns-clause-size c = subst (λ z. IsUpTo MAX_AIRCRAFT z) (sym (is_held MAX_AIRCRAFT _ c.rents_for.ensures.size (omega arith))) c.rents_for.ensures.size
