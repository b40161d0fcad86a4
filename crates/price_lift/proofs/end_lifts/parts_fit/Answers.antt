use Rattle.std.proofs.Common.{rules, false, true}
use Rattle.std.proofs.lemmas.Int.{to_z-of_z}
use mir.Val.{SFits}
use mir.Syntax.{w128}
use Rattle.price_lift.proofs.PartScales.{parts_told}
use Rattle.price_lift.proofs.end_lifts.parts_fit.Goals as goal

pub returns-then-is_past_scale : goal.returns-then-is_past_scale
returns-then-is_past_scale c =
    let fw : SFits w128 c.whole.result = search rules in
    let fd : SFits w128 c.parts_divisor-divisor.result = search rules in
    let fq : SFits w128 c.quotient.result = search rules in
    let over = simp to_z-of_z at c.quotient.ensures in
    let test = simp to_z-of_z at c.is_past_scale.ensures in
    parts_told _ _ _ c.parts_divisor-divisor.result c.quotient.result c.is_past_scale.result true c.parts_divisor-divisor.ensures.value (rw c.whole.ensures at over) test c.if-is_past_scale.true

pub returns : goal.returns
returns c =
    let fw : SFits w128 c.whole.result = search rules in
    let fd : SFits w128 c.parts_divisor-divisor.result = search rules in
    let fq : SFits w128 c.quotient.result = search rules in
    let over = simp to_z-of_z at c.quotient.ensures in
    let test = simp to_z-of_z at c.is_past_scale.ensures in
    parts_told _ _ _ c.parts_divisor-divisor.result c.quotient.result c.is_past_scale.result false c.parts_divisor-divisor.ensures.value (rw c.whole.ensures at over) test c.if-is_past_scale.false
