use Rattle.std.proofs.Common.{refl, ◌∙◌, ap, Some, arith}
use Rattle.branch_bound.proofs.Grown.{added, popped, popped_later, where_ok}
use Rattle.branch_bound.proofs.branching.add.Goals as goal

pub returns : goal.returns
returns c =
    where_ok _ _ _
    (λ two. added _ _ _ _ _ _ _ _ _ _ _ _ c.requires.number c.index_mut.ensures.value c.split.ensures refl refl refl (omega arith) refl
    (popped _ _ _ c.pop_first.ensures.removal c.pop_first.ensures.variant.1) (popped_later _ _ _ c.pop_first.ensures.removal c.pop_first.ensures.all_above c.pop_first.ensures.variant.1)
    (c.part_of.ensures ∙ ap (λ s. Some (record { parent = c.args.number; step = s })) c.with.ensures) (c.part_of-2.ensures ∙ ap (λ s. Some (record { parent = c.args.number; step = s })) c.without.ensures)
    c.in_ok-put.ensures two)
    c.put-2.ensures
