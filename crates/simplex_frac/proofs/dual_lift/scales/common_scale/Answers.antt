use Rattle.std.proofs.Common.{◌≡◌, arith, rules, pos, ◌<ℤ◌, ◌≤ℤ◌, ◌∙◌, ap, sym, unsigned_abs}
use Rattle.std.proofs.lemmas.Int.{ints, to_z-of_z}
use mir.Val.{SFits}
use mir.Syntax.{w128}
use Rattle.frac_row.specs.Outgrown.{is_outgrown}
use Rattle.simplex_frac.specs.dual_lift.Scales.{lcm}
use Rattle.simplex_frac.proofs.dual_lift.Quotients.{multiple_is, not_past, outgrown_is_past, past}
use Rattle.simplex_frac.proofs.dual_lift.scales.common_scale.Goals as goal

pub returns-in-Some : goal.returns-in-Some
returns-in-Some c =
    let fd : SFits w128 c.common_divisor-divisor.result = search rules in
    let fq : SFits w128 c.quotient.result = search rules in
    let fc : SFits w128 c.in-Some.common = search rules in
    let fm : SFits w128 c.from.result = search rules in
    let multiple = lcm (unsigned_abs c.args.scale.now) (unsigned_abs c.args.den.now) in
    let some : pos 0 <ℤ c.args.scale.now = c.requires.some in
    let divided = rw c.common_divisor-divisor.ensures.value at (simp to_z-of_z at c.quotient.ensures) in
    let product = rw divided at (simp to_z-of_z at c.in-Some.ensures) in
    let is : c.in-Some.common ≡ pos multiple = product.0 ∙ multiple_is c.args.scale.now c.args.den.now some c.requires.some_den in
    let few : pos multiple ≤ℤ pos c.args.most = omega (arith, ints, is, c.from.ensures) in
    (not_past c.args.most multiple few, to_z-of_z w128 c.in-Some.common fc ∙ is)

pub returns-in_default : goal.returns-in_default
returns-in_default c =
    let fd : SFits w128 c.common_divisor-divisor.result = search rules in
    let fq : SFits w128 c.quotient.result = search rules in
    let fc : SFits w128 c.in-Some.common = search rules in
    let fm : SFits w128 c.from.result = search rules in
    let multiple = lcm (unsigned_abs c.args.scale.now) (unsigned_abs c.args.den.now) in
    let some : pos 0 <ℤ c.args.scale.now = c.requires.some in
    let divided = rw c.common_divisor-divisor.ensures.value at (simp to_z-of_z at c.quotient.ensures) in
    let product = rw divided at (simp to_z-of_z at c.in-Some.ensures) in
    let is : c.in-Some.common ≡ pos multiple = product.0 ∙ multiple_is c.args.scale.now c.args.den.now some c.requires.some_den in
    let many : pos c.args.most <ℤ pos multiple = omega (arith, ints, is, c.from.ensures) in
    past c.args.most multiple many

pub returns-in_default-2 : goal.returns-in_default-2
returns-in_default-2 c =
    let fd : SFits w128 c.common_divisor-divisor.result = search rules in
    let fq : SFits w128 c.quotient.result = search rules in
    let multiple = lcm (unsigned_abs c.args.scale.now) (unsigned_abs c.args.den.now) in
    let some : pos 0 <ℤ c.args.scale.now = c.requires.some in
    let divided = rw c.common_divisor-divisor.ensures.value at (simp to_z-of_z at c.quotient.ensures) in
    let outgrown = rw divided at (simp to_z-of_z at c.in_default.ensures) in
    outgrown_is_past c.args.most multiple (omega arith) (sym (ap is_outgrown (multiple_is c.args.scale.now c.args.den.now some c.requires.some_den)) ∙ outgrown)
