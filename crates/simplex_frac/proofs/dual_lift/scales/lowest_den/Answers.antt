use Rattle.std.proofs.Common.{rules, pos, ◌∙◌, sym, subst, ◌<ℤ◌}
use Rattle.std.proofs.lemmas.Int.{to_z-of_z}
use mir.Val.{SFits}
use mir.Syntax.{w128}
use Rattle.sums.proofs.Sizes.{pos_above}
use Rattle.frac_row.specs.Outgrown.{IsWithin}
use Rattle.simplex_frac.specs.dual_lift.Scales.{lowest_den}
use Rattle.simplex_frac.proofs.dual_lift.LeastScales.{lowest_den_positive}
use Rattle.simplex_frac.proofs.dual_lift.Quotients.{lowest_den_is, lowest_den_within}
use Rattle.simplex_frac.proofs.dual_lift.scales.lowest_den.Goals as goal

pub returns-clause-value : goal.returns-clause-value
returns-clause-value g c =
    let fe : SFits w128 c.line_den-den.result = search rules in
    let fs : SFits w128 c.right_side.result = search rules in
    let fd : SFits w128 c.common_divisor-divisor.result = search rules in
    let fq : SFits w128 c.quotient.result = search rules in
    let divisor = simp to_z-of_z at c.common_divisor-divisor.ensures.value in
    let divided = rw divisor at (simp to_z-of_z at c.quotient.ensures) in
    to_z-of_z w128 c.quotient.result fq ∙ divided ∙ lowest_den_is (g.R.RowStore.content c.args.table.now) c.args.line c.line_den-den.result c.right_side.result c.line_den-den.ensures.value c.right_side.ensures.value c.line_den-den.ensures.positive

pub returns-clause-positive : goal.returns-clause-positive
returns-clause-positive g c =
    let table = g.R.RowStore.content c.args.table.now in
    subst (λ z. pos 0 <ℤ z) (sym (returns-clause-value g c)) (pos_above (lowest_den table c.args.line) (lowest_den_positive table c.args.line (subst (λ z. pos 0 <ℤ z) c.line_den-den.ensures.value c.line_den-den.ensures.positive)))

pub returns-clause-within : goal.returns-clause-within
returns-clause-within g c =
    let table = g.R.RowStore.content c.args.table.now in
    subst (λ z. IsWithin z) (sym (returns-clause-value g c)) (lowest_den_within table c.args.line (subst (λ z. IsWithin z) c.line_den-den.ensures.value c.line_den-den.ensures.within))
