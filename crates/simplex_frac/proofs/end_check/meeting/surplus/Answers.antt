use Rattle.std.proofs.Common.{rules, ◌∙◌}
use Rattle.std.proofs.lemmas.Int.{to_z-of_z}
use mir.Val.{SFits}
use mir.Syntax.{w128}
use Rattle.simplex_frac.specs.end_check.Sums.{share_in}
use Rattle.simplex_frac.proofs.end_check.Products.{summing_begun, summing_more}
use Rattle.simplex_frac.proofs.end_check.meeting.surplus.Goals as goal

pub loop-entry-init : goal.loop-entry-init
loop-entry-init c = summing_begun c.args.line.now (share_in c.args.point.now c.args.scale) c.numbers-left.result c.numbers-left.ensures.rising c.numbers-left.ensures.numbers

pub loop-entry-preserved : goal.loop-entry-preserved
loop-entry-preserved c =
    let f : SFits w128 c.in-Some-plus_product.more = search rules in
    let g : SFits w128 c.share-share.result = search rules in
    summing_more c.args.line.now (share_in c.args.point.now c.args.scale) _ _ _ c.in-Some.entry c.next.new.self c.loop-entry.left c.loop-entry.invariant c.in-Some.ensures (to_z-of_z w128 c.share-share.result g ∙ c.share-share.ensures) c.in-Some-plus_product.ensures.0 (to_z-of_z w128 c.in-Some-plus_product.more f ∙ c.in-Some-plus_product.ensures.1)
