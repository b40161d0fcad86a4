use Rattle.std.proofs.Common.{pos, unsigned_abs, rules, ◌∙◌, ap}
use Rattle.std.proofs.lemmas.Int.{to_z-of_z}
use mir.Val.{SFits}
use mir.Syntax.{w128}
use Rattle.frac_row.proofs.CommonDivisors.{gcd_turned}
use Rattle.frac_row.proofs.sparse_lowest_terms.joined.Goals as goal

pub returns : goal.returns
returns c =
    let fr : SFits w128 c.gcd.result = search rules in
    let fa : SFits w128 c.args.divisor.now = search rules in
    let fb : SFits w128 c.args.number.now = search rules in
    to_z-of_z w128 c.gcd.result fr ∙ (simp to_z-of_z at c.gcd.ensures) ∙ ap pos (gcd_turned (unsigned_abs c.args.number.now) (unsigned_abs c.args.divisor.now))
