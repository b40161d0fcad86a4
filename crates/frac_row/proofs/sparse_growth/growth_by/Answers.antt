use Rattle.std.proofs.Common.{rules, sym, ◌∙◌}
use Rattle.std.proofs.lemmas.Int.{to_z-of_z}
use mir.Val.{SFits}
use mir.Syntax.{w128}
use Rattle.frac_row.proofs.Combined.{growth_as, growth_in_row, growth_behind, den_stays, den_grows}
use Rattle.frac_row.proofs.sparse_growth.growth_by.Goals as goal

pub returns-then-is_some : goal.returns-then-is_some
returns-then-is_some c =
    growth_in_row c.first_growth-growth.result _ (sym c.is_some.ensures ∙ c.if-is_some.true)
    ∙ growth_as c.args.factors.now _ _ _ _ _ _ _ _ _ _ _ c.row.invariant c.pivot_row.invariant c.row.view_is c.pivot_row.view_is c.requires.same_width c.as_slice.ensures.value c.as_slice-2.ensures.value c.first_growth-growth.ensures

pub returns-in-Some : goal.returns-in-Some
returns-in-Some c =
    den_stays c.row.inside.width c.args.factors.now.own c.row.inside.den c.in-Some.ensures.1
    ∙ growth_behind c.first_growth-growth.result _ (sym c.is_some.ensures ∙ c.if-is_some.false)
    ∙ growth_as c.args.factors.now _ _ _ _ _ _ _ _ _ _ _ c.row.invariant c.pivot_row.invariant c.row.view_is c.pivot_row.view_is c.requires.same_width c.as_slice.ensures.value c.as_slice-2.ensures.value c.first_growth-growth.ensures

pub returns-in-None : goal.returns-in-None
returns-in-None c =
    let fo : SFits w128 c.args.factors.now.own = search rules in
    let fd : SFits w128 c.row.inside.den = search rules in
    den_grows c.row.inside.width c.args.factors.now.own c.row.inside.den _ _ c.in-None.ensures (to_z-of_z w128 c.args.factors.now.own fo) (to_z-of_z w128 c.row.inside.den fd)
    ∙ growth_behind c.first_growth-growth.result _ (sym c.is_some.ensures ∙ c.if-is_some.false)
    ∙ growth_as c.args.factors.now _ _ _ _ _ _ _ _ _ _ _ c.row.invariant c.pivot_row.invariant c.row.view_is c.pivot_row.view_is c.requires.same_width c.as_slice.ensures.value c.as_slice-2.ensures.value c.first_growth-growth.ensures
