use Rattle.std.proofs.Common.{arith, rules, pos, ℤ, ◌<ℤ◌, neg_ℤ}
use Rattle.std.proofs.lemmas.Int.{ints, to_z-of_z}
use mir.Val.{SFits}
use mir.Syntax.{w128}
use Rattle.sums.proofs.Integers.{positive_product}
use Rattle.simplex_frac.proofs.dual_lift.Mixtures.{some_wanted}
use Rattle.simplex_frac.proofs.dual_lift.mixture.phases_for.Goals as goal

above_zero : (c : ℤ) → c <ℤ pos 0 → pos 0 <ℤ neg_ℤ c
above_zero c h = omega (arith, ints)

pub ceiling-requires-clause-number : goal.ceiling-requires-clause-number
ceiling-requires-clause-number c =
    let fo : SFits w128 c.opposite-below_zero.result = search rules in
    let fw : SFits w128 c.in-Some.wanted = search rules in
    let value = simp to_z-of_z at c.in-Some.ensures in
    let below : c.args.cost.now <ℤ pos 0 = omega (arith, ints) in
    let more = positive_product (neg_ℤ c.args.cost.now) c.args.phase_den.now (above_zero c.args.cost.now below) c.requires.phase_den in
    rw (to_z-of_z w128 c.in-Some.wanted fw, value.0, c.opposite-below_zero.ensures) more

pub ceiling-requires-clause-divisor : goal.ceiling-requires-clause-divisor
ceiling-requires-clause-divisor c =
    let fg : SFits w128 c.in-Some-product.given = search rules in
    let below : c.args.cost.now <ℤ pos 0 = omega (arith, ints) in
    let more = positive_product c.args.phase.now c.args.cost_den.now (c.requires.phase below) c.requires.cost_den in
    rw (to_z-of_z w128 c.in-Some-product.given fg, c.in-Some-product.ensures.0) more

pub returns : goal.returns
returns c =
    let fo : SFits w128 c.opposite-below_zero.result = search rules in
    let fw : SFits w128 c.in-Some.wanted = search rules in
    let fg : SFits w128 c.in-Some-product.given = search rules in
    let fr : SFits w128 c.ceiling.result = search rules in
    let below : c.args.cost.now <ℤ pos 0 = omega (arith, ints) in
    let value = rw c.opposite-below_zero.ensures at (simp to_z-of_z at c.in-Some.ensures) in
    let up = simp to_z-of_z at c.ceiling.ensures in
    rw (to_z-of_z w128 c.ceiling.result fr)
    (some_wanted c.args.cost.now c.args.cost_den.now c.args.phase.now c.args.phase_den.now c.in-Some.wanted c.in-Some-product.given c.ceiling.result below value.0 value.1 c.in-Some-product.ensures.0 c.in-Some-product.ensures.1 up)
