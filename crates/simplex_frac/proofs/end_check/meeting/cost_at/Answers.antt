use Rattle.std.proofs.Common.{rules, pos, subst, sym, ◌∙◌, refl, add-one, of_z, to_z}
use Rattle.std.proofs.lemmas.Int.{to_z-of_z}
use mir.Val.{SFits}
use mir.Syntax.{w128}
use Rattle.simplex_frac.specs.end_check.Ends.{part_in, value_in}
use Rattle.simplex_frac.proofs.end_check.Products.{IsSumUpTo, sum_more}
use Rattle.simplex_frac.proofs.end_check.meeting.cost_at.Goals as goal

pub loop-column-preserved : goal.loop-column-preserved
loop-column-preserved c =
    let f : SFits w128 c.in-Some.more = search rules in
    let g : SFits w128 c.part-part.result = search rules in
    subst (λ n. IsSumUpTo (value_in c.args.costs.now) (λ column. pos (part_in c.args.point.now column)) n (to_z w128 (of_z w128 c.in-Some.more))) (sym (add-one c.loop-column.column))
    (sum_more (value_in c.args.costs.now) (λ column. pos (part_in c.args.point.now column)) c.loop-column.column _ _ _ _ c.loop-column.invariant refl (to_z-of_z w128 c.part-part.result g ∙ c.part-part.ensures) c.in-Some.ensures.0 (to_z-of_z w128 c.in-Some.more f ∙ c.in-Some.ensures.1))
