use Rattle.std.proofs.Common.{arith}
use Rattle.std.proofs.lemmas.Int.{ints, to_z-of_z}
use Rattle.frac_row.proofs.Ceilings.{ceiling_above, ceiling_here, half_at_most}
use Rattle.frac_row.proofs.ratio.ceil_div.Goals as goal

pub returns-then-division-gt0 : goal.returns-then-division-gt0
returns-then-division-gt0 c =
    let fn = c.ranges.n in
    let fd = c.ranges.d in
    let exact = simp to_z-of_z at c.divide-division.ensures.exact in
    let below = simp to_z-of_z at c.divide-division.ensures.below in
    ceiling_above c.args.n c.args.d c.divide-division.result.quotient c.divide-division.result.rest _ c.requires exact below (omega (arith, ints)) (omega (arith, ints, half_at_most c.args.n c.args.d c.divide-division.result.quotient c.divide-division.result.rest c.requires exact below (omega (arith, ints)) (omega (arith, ints))))

pub returns-else-division-gt0 : goal.returns-else-division-gt0
returns-else-division-gt0 c =
    let fn = c.ranges.n in
    let fd = c.ranges.d in
    let exact = simp to_z-of_z at c.divide-division.ensures.exact in
    let below = simp to_z-of_z at c.divide-division.ensures.below in
    ceiling_here c.args.n c.args.d c.divide-division.result.quotient c.divide-division.result.rest _ c.requires exact below (omega (arith, ints)) (omega (arith, ints))
