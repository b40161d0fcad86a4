use Rattle.std.proofs.Common.{sym, ◌∙◌, subst}
use Rattle.euler_rotation.specs.Searches.{is_kept_in}
use Rattle.euler_rotation.proofs.Answering.{not_kept}
use Rattle.euler_rotation.proofs.Visiting.{not_ended}
use Rattle.euler_rotation.proofs.search.ended.Goals as goal

pub returns-then-len-field : goal.returns-then-len-field
returns-then-len-field c = not_ended c.args.field.now c.args.walk.now.path c.requires (λ same. c.if-len-field.true (c.len.ensures ∙ same))

pub returns-then-is_kept_tour : goal.returns-then-is_kept_tour
returns-then-is_kept_tour c = subst (is_kept_in c.args.field.now) c.as_slice.ensures (c.is_kept_tour.ensures.0 c.if-is_kept_tour.true)

pub returns-else-is_kept_tour : goal.returns-else-is_kept_tour
returns-else-is_kept_tour c kept =
    not_kept c.args.field.now.clean.now.asked.now c.as_slice.result.now c.is_kept_tour.result c.is_kept_tour.ensures.1 c.if-is_kept_tour.false
    (subst (is_kept_in c.args.field.now) (sym (c.as_slice.ensures ∙ c.in_ok-legs.ensures)) kept)
