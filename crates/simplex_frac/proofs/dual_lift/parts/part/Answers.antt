use Rattle.std.proofs.Common.{◌≡◌, rules, pos, ◌∙◌, sym, subst, unsigned_abs, ◌<ℤ◌, ◌≤ℤ◌, ◌*ℤ◌, to_z, of_z}
use Rattle.std.proofs.lemmas.Int.{to_z-of_z}
use mir.Val.{SFits}
use mir.Syntax.{w128}
use Rattle.std.specs.Prelude.{int_div}
use Rattle.sums.specs.Divisors.{gcd}
use Rattle.sums.proofs.Sizes.{pos_above}
use Rattle.simplex_frac.specs.dual_lift.Parts.{part_of}
use Rattle.simplex_frac.specs.dual_lift.Scales.{lowest_den}
use Rattle.simplex_frac.proofs.dual_lift.LeastScales.{lowest_den_positive}
use Rattle.simplex_frac.proofs.dual_lift.Quotients.{lowest_den_is, part_value, same_product, small_product}
use Rattle.simplex_frac.proofs.dual_lift.parts.part.Given.{Over}
use Rattle.simplex_frac.proofs.dual_lift.parts.part.Goals as goal

pub quotient-times-requires : goal.quotient-times-requires
quotient-times-requires g c =
    let table = g.R.RowStore.content c.args.table.now in
    let fe : SFits w128 c.line_den-den.result = search rules in
    let fs : SFits w128 c.right_side-number.result = search rules in
    let fd : SFits w128 c.common_divisor-divisor.result = search rules in
    let fq : SFits w128 c.quotient.result = search rules in
    let divisor = simp to_z-of_z at c.common_divisor-divisor.ensures.value in
    let divided = rw divisor at (simp to_z-of_z at c.quotient.ensures) in
    let is = divided ∙ lowest_den_is table c.args.line c.line_den-den.result c.right_side-number.result c.line_den-den.ensures.value c.right_side-number.ensures.value c.line_den-den.ensures.positive in
    subst (λ z. pos 0 <ℤ z) (sym (to_z-of_z w128 c.quotient.result fq ∙ is))
    (pos_above (lowest_den table c.args.line) (lowest_den_positive table c.args.line (subst (λ z. pos 0 <ℤ z) c.line_den-den.ensures.value c.line_den-den.ensures.positive)))

-- the product of the two quotients
product_is : (g : Over) (c : goal.After-quotient-2 g) → to_z w128 (of_z w128 c.quotient-2.result) *ℤ to_z w128 (of_z w128 c.quotient-times.result) ≡ pos (part_of (g.R.RowStore.content c.args.table.now) (unsigned_abs c.args.scale.now) c.args.line)
product_is g c =
    let table = g.R.RowStore.content c.args.table.now in
    let fe : SFits w128 c.line_den-den.result = search rules in
    let fs : SFits w128 c.right_side-number.result = search rules in
    let fd : SFits w128 c.common_divisor-divisor.result = search rules in
    let fq : SFits w128 c.quotient.result = search rules in
    let ft : SFits w128 c.quotient-times.result = search rules in
    let fr : SFits w128 c.quotient-2.result = search rules in
    let divisor = simp to_z-of_z at c.common_divisor-divisor.ensures.value in
    let divided = rw divisor at (simp to_z-of_z at c.quotient.ensures) in
    let is = divided ∙ lowest_den_is table c.args.line c.line_den-den.result c.right_side-number.result c.line_den-den.ensures.value c.right_side-number.ensures.value c.line_den-den.ensures.positive in
    let times = rw is at (simp to_z-of_z at c.quotient-times.ensures) in
    let number = rw divisor at (simp to_z-of_z at c.quotient-2.ensures) in
    let some : pos 0 ≤ℤ c.right_side-number.result = subst (λ z. pos 0 ≤ℤ z) (sym c.right_side-number.ensures.value) c.requires.some in
    let above : pos 0 <ℤ c.args.scale.now = c.requires.scale in
    same_product (to_z w128 (of_z w128 c.quotient-2.result)) (to_z w128 (of_z w128 c.quotient-times.result))
    (int_div c.right_side-number.result (pos (gcd (unsigned_abs c.right_side-number.result) (unsigned_abs c.line_den-den.result)))) (int_div c.args.scale.now (pos (lowest_den table c.args.line)))
    (to_z-of_z w128 c.quotient-2.result fr ∙ number) (to_z-of_z w128 c.quotient-times.result ft ∙ times)
    ∙ part_value table c.args.line c.args.scale.now c.right_side-number.result c.line_den-den.result c.right_side-number.ensures.value c.line_den-den.ensures.value some above

pub overflow_mul-result : goal.overflow_mul-result
overflow_mul-result g c =
    small_product (to_z w128 (of_z w128 c.quotient-2.result) *ℤ to_z w128 (of_z w128 c.quotient-times.result)) (part_of (g.R.RowStore.content c.args.table.now) (unsigned_abs c.args.scale.now) c.args.line) (product_is g c) c.requires.few

pub returns : goal.returns
returns g c =
    to_z-of_z w128 (to_z w128 (of_z w128 c.quotient-2.result) *ℤ to_z w128 (of_z w128 c.quotient-times.result)) (overflow_mul-result g c) ∙ product_is g c
