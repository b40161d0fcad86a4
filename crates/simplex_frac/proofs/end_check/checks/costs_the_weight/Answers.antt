use Rattle.std.proofs.Common.{rules}
use Rattle.std.proofs.lemmas.Int.{to_z-of_z}
use mir.Val.{SFits}
use mir.Syntax.{w128}
use Rattle.simplex_frac.proofs.end_check.Shown.{costs_by, costs_nothing}
use Rattle.simplex_frac.proofs.end_check.checks.costs_the_weight.Goals as goal

pub returns-in-Some : goal.returns-in-Some
returns-in-Some c =
    let f : SFits w128 c.in-Some.cost = search rules in
    costs_by c.args.costs.now c.args.hint.now c.as_slice.result.now c.args.weight.now c.in-Some.cost c.are_same.result c.as_slice.ensures c.in-Some.ensures (simp to_z-of_z at c.are_same.ensures)

pub returns-in-None : goal.returns-in-None
returns-in-None c = costs_nothing c.args.costs.now c.args.hint.now c.as_slice.result.now c.args.weight.now c.as_slice.ensures c.in-None.ensures
