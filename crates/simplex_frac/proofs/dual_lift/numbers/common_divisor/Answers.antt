use Rattle.std.proofs.Common.{arith, rules}
use Rattle.std.proofs.lemmas.Int.{ints, to_z-of_z}
use mir.Val.{SFits}
use mir.Syntax.{w128}
use Rattle.simplex_frac.proofs.dual_lift.Quotients.{divisor_some}
use Rattle.simplex_frac.proofs.dual_lift.numbers.common_divisor.Goals as goal

pub returns-clause-positive : goal.returns-clause-positive
returns-clause-positive c =
    let fa : SFits w128 c.args.a.now = search rules in
    let fb : SFits w128 c.args.b.now = search rules in
    let fg : SFits w128 c.gcd.result = search rules in
    let value = simp to_z-of_z at c.gcd.ensures in
    omega (arith, ints, value, divisor_some c.args.a.now c.args.b.now c.requires.some)
