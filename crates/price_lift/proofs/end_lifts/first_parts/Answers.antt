use Rattle.std.proofs.Common.{rules, pos, ◌∙◌}
use Rattle.std.proofs.lemmas.Int.{to_z-of_z}
use mir.Val.{SFits}
use mir.Syntax.{w128}
use Rattle.sums.proofs.Places.{list_below-push}
use Rattle.simplex_frac.specs.end_check.Ends.{part_in}
use Rattle.price_lift.proofs.end_lifts.first_parts.Goals as goal

pub loop-column-preserved : goal.loop-column-preserved
loop-column-preserved c =
    let fr : SFits w128 c.whole.result = search rules in
    c.in_ok-push.ensures.items ∙ list_below-push (λ column. pos (part_in c.args.point.now column)) c.loop-column.column _ _ c.loop-column.invariant (to_z-of_z w128 c.whole.result fr ∙ c.whole.ensures)
