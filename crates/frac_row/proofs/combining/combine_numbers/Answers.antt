use Rattle.std.proofs.Common.{pos, arith, rules, sym, ◌∙◌, ap, subst, get_or}
use Rattle.std.proofs.lemmas.Int.{to_z-of_z}
use mir.Val.{SFits}
use mir.Syntax.{w128}
use Rattle.sums.proofs.Places.{filled_none, filled_more, filled_all}
use Rattle.frac_row.specs.Combined.{combined_number, PlaceFits}
use Rattle.frac_row.proofs.combining.combine_numbers.Goals as goal

pub loop-column-init : goal.loop-column-init
loop-column-init c = filled_none _ _ _

pub combined_number-number-requires : goal.combined_number-number-requires
combined_number-number-requires c =
    let same = ap (λ xs. get_or xs c.loop-column.column (pos 0)) c.as_slice.ensures ∙ c.loop-column.invariant.kept c.loop-column.column (omega arith) in
    subst (λ x. PlaceFits c.args.factors.now x (get_or c.args.pivot_numbers.now c.loop-column.column (pos 0))) (sym same) (c.requires.fits c.loop-column.column (omega arith))

pub loop-column-preserved : goal.loop-column-preserved
loop-column-preserved c =
    let fn : SFits w128 c.combined_number-number.result = search rules in
    let same = ap (λ xs. get_or xs c.loop-column.column (pos 0)) c.as_slice.ensures ∙ c.loop-column.invariant.kept c.loop-column.column (omega arith) in
    rw c.set.ensures (filled_more _ _ _ _ _ _ c.loop-column.invariant (omega arith) (to_z-of_z w128 c.combined_number-number.result fn ∙ c.combined_number-number.ensures ∙ ap (λ x. combined_number c.args.factors.now x (get_or c.args.pivot_numbers.now c.loop-column.column (pos 0))) same))

pub returns : goal.returns
returns c = filled_all _ _ _ _ _ c.loop-column.invariant (omega arith)
