use Rattle.std.proofs.Common.{sym, subst, arith}
use Rattle.fleet_model.specs.declared.limits.TheConstants.{MAX_AIRCRAFT}
use Rattle.dual_bound.specs.Sizes.{IsUpTo}
use Rattle.dual_bound.proofs.Numbers.{multiplied}
use Rattle.dual_bound.proofs.Sizes.{up_to_times}
use Rattle.dual_bound.proofs.worth.rents_for.Goals as goal

pub returns-clause-value : goal.returns-clause-value
returns-clause-value c = multiplied MAX_AIRCRAFT _ _ _ _ c.rent.ensures.size c.rent.ensures.value c.from.ensures c.requires.count (omega arith)

pub returns-clause-less : goal.returns-clause-less
returns-clause-less c = λ n few.
    subst (λ z. IsUpTo n z) (sym (returns-clause-value c)) (up_to_times _ _ n (rw c.rent.ensures.value at c.rent.ensures.size) few)

pub returns-clause-size : goal.returns-clause-size
returns-clause-size c = returns-clause-less c MAX_AIRCRAFT c.requires.count
