use Rattle.std.proofs.Common.{rules, ◌∙◌, ap, to_z, of_z}
use Rattle.std.proofs.lemmas.Int.{to_z-of_z}
use mir.Val.{SFits}
use mir.Syntax.{w128}
use Rattle.frac_row.specs.Combined.{combined_number}
use Rattle.frac_row.proofs.Fits.{fits, difference_is}
use Rattle.frac_row.proofs.combining.combined_number.Goals as goal

pub overflow_sub-result : goal.overflow_sub-result
overflow_sub-result c =
    let fa : SFits w128 c.args.factors.now.own = search rules in
    let fb : SFits w128 c.args.number.now = search rules in
    let fc : SFits w128 c.args.factors.now.pivot = search rules in
    let fd : SFits w128 c.args.pivot_number.now = search rules in
    rw (difference_is c.args.factors.now.own c.args.number.now c.args.factors.now.pivot c.args.pivot_number.now fa fb fc fd c.requires.own_product c.requires.pivot_product) (fits (combined_number c.args.factors.now c.args.number.now c.args.pivot_number.now) c.requires.difference)

pub returns : goal.returns
returns c =
    let fa : SFits w128 c.args.factors.now.own = search rules in
    let fb : SFits w128 c.args.number.now = search rules in
    let fc : SFits w128 c.args.factors.now.pivot = search rules in
    let fd : SFits w128 c.args.pivot_number.now = search rules in
    ap (λ z. to_z w128 (of_z w128 z)) (difference_is c.args.factors.now.own c.args.number.now c.args.factors.now.pivot c.args.pivot_number.now fa fb fc fd c.requires.own_product c.requires.pivot_product) ∙ to_z-of_z w128 (combined_number c.args.factors.now c.args.number.now c.args.pivot_number.now) (fits (combined_number c.args.factors.now c.args.number.now c.args.pivot_number.now) c.requires.difference)
