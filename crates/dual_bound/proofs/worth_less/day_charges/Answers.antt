use Rattle.std.proofs.Common.{sym, subst, arith}
use Rattle.dual_bound.specs.Sizes.{IsUpTo}
use Rattle.dual_bound.proofs.Numbers.{multiplied}
use Rattle.dual_bound.proofs.Sizes.{up_to_times}
use Rattle.dual_bound.proofs.worth_less.day_charges.Goals as goal

pub returns-clause-value : goal.returns-clause-value
returns-clause-value c =
    multiplied 10000 _ _ _ _ c.charge.ensures.size c.charge.ensures.value (rw c.limit.ensures.value at c.from.ensures) (rw c.limit.ensures.value at c.limit.ensures.few) (omega arith)

pub returns-clause-size : goal.returns-clause-size
returns-clause-size c =
    subst (λ z. IsUpTo 10000 z) (sym (returns-clause-value c)) (up_to_times _ _ 10000 (rw c.charge.ensures.value at c.charge.ensures.size) (rw c.limit.ensures.value at c.limit.ensures.few))
