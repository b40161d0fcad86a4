use Rattle.std.proofs.Common.{◌≡◌, rules, arith, ℤ, pos, get_or, ◌∙◌, ap, to_z, of_z}
use Rattle.std.specs.Prelude.{int_div}
use Rattle.std.proofs.lemmas.Int.{to_z-of_z}
use mir.Val.{SFits}
use mir.Syntax.{w128}
use Rattle.sums.proofs.Places.{filled_none, filled_more, filled_all}
use Rattle.frac_row.proofs.lowest_terms.divide_numbers.Goals as goal

-- a quotient as the call takes and gives it
passed : (q n d x : ℤ) → SFits w128 q → SFits w128 n → SFits w128 d → q ≡ int_div (to_z w128 (of_z w128 n)) (to_z w128 (of_z w128 d)) → n ≡ x → to_z w128 (of_z w128 q) ≡ int_div x d
passed q n d x fq fn fd e same =
    to_z-of_z w128 q fq ∙ (simp to_z-of_z at e) ∙ ap (λ k. int_div k d) same

pub loop-column-init : goal.loop-column-init
loop-column-init c = filled_none _ _ _

pub loop-column-preserved : goal.loop-column-preserved
loop-column-preserved c =
    let fq : SFits w128 c.divide.result.quotient = search rules in
    let fn : SFits w128 (get_or c.as_slice.result.now c.loop-column.column (pos 0)) = search rules in
    let fd : SFits w128 c.args.divisor.now = search rules in
    let same = ap (λ xs. get_or xs c.loop-column.column (pos 0)) c.as_slice.ensures ∙ c.loop-column.invariant.kept c.loop-column.column (omega arith) in
    rw c.set.ensures (filled_more _ _ _ _ _ _ c.loop-column.invariant (omega arith) (passed _ _ _ _ fq fn fd c.divide.ensures.quotient same))

pub returns : goal.returns
returns c = filled_all _ _ _ _ _ c.loop-column.invariant (omega arith)
