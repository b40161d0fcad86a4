use Rattle.std.proofs.Common.{rules, ap}
use Rattle.std.proofs.lemmas.Int.{to_z-of_z}
use mir.Val.{SFits}
use mir.Syntax.{w128}
use Rattle.row_store.specs.Choice.{goes_first, is_first}
use Rattle.row_store.proofs.choice.goes_first.Goals as goal

pub returns-in-Less : goal.returns-in-Less
unfolding goes_first
returns-in-Less c =
    let a : SFits w128 c.args.one.now.right_side = search rules in
    let b : SFits w128 c.args.one.now.entry = search rules in
    let d : SFits w128 c.args.other.now.right_side = search rules in
    let e : SFits w128 c.args.other.now.entry = search rules in
    ap (λ o. is_first o c.args.one.now.basic c.args.other.now.basic) (simp to_z-of_z at c.in-Less.ensures)

pub returns-in-Equal : goal.returns-in-Equal
unfolding goes_first
returns-in-Equal c =
    let a : SFits w128 c.args.one.now.right_side = search rules in
    let b : SFits w128 c.args.one.now.entry = search rules in
    let d : SFits w128 c.args.other.now.right_side = search rules in
    let e : SFits w128 c.args.other.now.entry = search rules in
    ap (λ o. is_first o c.args.one.now.basic c.args.other.now.basic) (simp to_z-of_z at c.in-Equal.ensures)

pub returns-in-Greater : goal.returns-in-Greater
unfolding goes_first
returns-in-Greater c =
    let a : SFits w128 c.args.one.now.right_side = search rules in
    let b : SFits w128 c.args.one.now.entry = search rules in
    let d : SFits w128 c.args.other.now.right_side = search rules in
    let e : SFits w128 c.args.other.now.entry = search rules in
    ap (λ o. is_first o c.args.one.now.basic c.args.other.now.basic) (simp to_z-of_z at c.in-Greater.ensures)
