use Rattle.std.proofs.Common.{◌∙◌, sym, subst, arith}
use Rattle.dual_bound.specs.Sizes.{IsUpTo}
use Rattle.dual_bound.proofs.Numbers.{is_held}
use Rattle.dual_bound.proofs.worth.lap_rents.Goals as goal

pub rents_for-requires-clause-count : goal.rents_for-requires-clause-count
rents_for-requires-clause-count c = omega (arith, c.laps.ensures.few)

pub returns-clause-value : goal.returns-clause-value
returns-clause-value c = is_held 2 _ (c.rents_for.ensures.less 2 c.laps.ensures.few) (omega arith) ∙ (rw c.laps.ensures.value at c.rents_for.ensures.value)

pub returns-clause-size : goal.returns-clause-size
returns-clause-size c =
    let small = c.rents_for.ensures.less 2 c.laps.ensures.few in
    subst (λ z. IsUpTo 2 z) (sym (is_held 2 _ small (omega arith))) small
