use Rattle.std.proofs.Common.{◌∙◌, IfSome, sym, subst}
use Rattle.dual_bound.specs.Sizes.{IsUpTo}
use Rattle.dual_bound.proofs.LeastWorth.{least_kept, least_passed, least_small}
use Rattle.dual_bound.proofs.worth.leg_worth.Goals.{then-kept, else-kept}
use Rattle.dual_bound.proofs.worth.leg_worth.Goals as goal

pub loop-choice-preserved : goal.loop-choice-preserved
loop-choice-preserved c = elim c.if-kept.branch [
  | then-kept w ↦ record {
    least = w.least-is ∙ least_kept _ _ _ _ _ _ (sym c.kept.ensures ∙ w.if-kept.true) c.loop-choice.invariant.least c.loop-choice.invariant.size w.pair_worth-worth.ensures.value w.pair_worth-worth.ensures.size w.lesser.ensures;
    size = subst (λ least. IfSome least (λ z. IsUpTo 7 z)) (sym w.least-is) (least_small _ _ _ c.loop-choice.invariant.size w.pair_worth-worth.ensures.size w.lesser.ensures);
  }
  | else-kept w ↦ record {
    least = w.least-is ∙ least_passed _ _ _ _ (sym c.kept.ensures ∙ w.if-kept.false) c.loop-choice.invariant.least;
    size = subst (λ least. IfSome least (λ z. IsUpTo 7 z)) (sym w.least-is) c.loop-choice.invariant.size;
  }
]
