use Rattle.std.proofs.Common.{rules}
use Rattle.std.proofs.lemmas.List.Sorted.{answers_always}
use Rattle.dual_bound.specs.Rising.{weight_before}
use Rattle.dual_bound.proofs.RisingWeights.{rise_from_weights, weights_from_answer}
use Rattle.dual_bound.proofs.rising_weights.weights_rise.Goals as goal

pub returns : goal.returns
returns c rising =
    rise_from_weights _ (weights_from_answer _ _ (c.is_sorted_by.ensures.cases weight_before (answers_always _ _ _ (λ f a r g called. search rules))) rising)
