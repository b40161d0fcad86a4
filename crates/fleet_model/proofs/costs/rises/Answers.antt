use Rattle.std.proofs.Common.{rules}
use Rattle.std.proofs.lemmas.List.Sorted.{answers_always}
use Rattle.fleet_model.specs.Costs.{comes_before}
use Rattle.fleet_model.proofs.CostLookup.{rise_from_steps, steps_from_answer}
use Rattle.fleet_model.proofs.costs.rises.Goals as goal

pub returns : goal.returns
returns c rising =
    rise_from_steps _ (steps_from_answer _ _ (c.is_sorted_by.ensures.cases comes_before (answers_always _ _ _ (λ f a r g called. search rules))) rising)
