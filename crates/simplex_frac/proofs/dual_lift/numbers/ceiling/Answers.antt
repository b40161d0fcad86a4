use Rattle.std.proofs.Common.{rules, ◌∙◌}
use Rattle.std.proofs.lemmas.Int.{to_z-of_z}
use mir.Val.{SFits}
use mir.Syntax.{w128}
use Rattle.simplex_frac.proofs.dual_lift.Quotients.{ceiling_is}
use Rattle.simplex_frac.proofs.dual_lift.numbers.ceiling.Goals as goal

pub returns : goal.returns
returns c =
    let fn : SFits w128 c.args.n.now = search rules in
    let fd : SFits w128 c.args.d.now = search rules in
    let fr : SFits w128 c.ceil_div.result = search rules in
    to_z-of_z w128 c.ceil_div.result fr ∙ ceiling_is c.args.n.now c.args.d.now c.ceil_div.result c.requires.number c.requires.divisor (simp to_z-of_z at c.ceil_div.ensures)
