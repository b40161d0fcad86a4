use Rattle.std.proofs.Common.{rules}
use Rattle.std.proofs.lemmas.List.Sorted.{answers_always}
use Rattle.dual_bound.specs.Rising.{step_before}
use Rattle.dual_bound.proofs.RisingSteps.{rise_from_steps, steps_from_answer}
use Rattle.dual_bound.proofs.rising.rise.Goals as goal

pub returns : goal.returns
returns c rising =
    rise_from_steps _ (steps_from_answer _ _ (c.is_sorted_by.ensures.cases step_before (answers_always _ _ _ (λ f a r g called. search rules))) rising)
