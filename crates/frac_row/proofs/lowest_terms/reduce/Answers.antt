use Rattle.std.proofs.Common.{rules, arith, refl, ◌∙◌}
use Rattle.std.proofs.lemmas.Int.{ints, to_z-of_z}
use mir.Val.{SFits}
use mir.Syntax.{w128}
use Rattle.frac_row.proofs.Rows.{reduced_by, reduced-one}
use Rattle.frac_row.proofs.lowest_terms.reduce.Goals as goal

pub divide_numbers-requires : goal.divide_numbers-requires
divide_numbers-requires c = omega (arith, ints)

pub divide-requires : goal.divide-requires
divide-requires c = omega (arith, ints)

pub returns-then-divisor-ne1 : goal.returns-then-divisor-ne1
returns-then-divisor-ne1 c =
    let fq : SFits w128 c.divide.result.quotient = search rules in
    let fn : SFits w128 c.args.row.now.den = search rules in
    let fd : SFits w128 c.divisor_of-divisor.result = search rules in
    reduced_by c.args.row.now _ _ c.divisor_of-divisor.result _ c.divisor_of-divisor.ensures.value refl
    (simp to_z-of_z at c.divide_numbers.ensures) (to_z-of_z w128 c.divide.result.quotient fq ∙ (simp to_z-of_z at c.divide.ensures.quotient))

pub returns-else-divisor-ne1 : goal.returns-else-divisor-ne1
returns-else-divisor-ne1 c =
    reduced-one c.args.row.now c.divisor_of-divisor.result c.divisor_of-divisor.ensures.value (omega (arith, ints))
