use Rattle.std.proofs.Common.{◌≡◌, ℕ, ℤ, List, pos, rules, arith, ◌∙◌, ap}
use Rattle.std.proofs.lemmas.Int.{to_z-of_z}
use Rattle.std.proofs.lemmas.List.{ext_get_or}
use mir.Val.{SFits}
use mir.Syntax.{w128}
use Rattle.sums.specs.Places.{list_below}
use Rattle.sums.proofs.Places.{list_below-push, length-list_below, get_or-list_below}
use Rattle.frac_row.specs.declared.row.FracRow.{FracRow}
use Rattle.frac_row.specs.Row.{number_of, width_of}
use Rattle.row_store.proofs.table_row.full_row.Goals as goal

-- the row of all numbers
made_is : (row : FracRow) (n : ℕ) (numbers items : List ℤ) (den : ℤ) → numbers ≡ items → items ≡ list_below (number_of row) n → n ≡ width_of row → den ≡ row.den → ◌≡◌ {A = FracRow} (record { numbers = numbers; den = den }) row
made_is row n numbers items den e h same d =
    ap (λ xs. record { numbers = xs; den = den }) (e ∙ h ∙ ap (list_below (number_of row)) same ∙ all_numbers) ∙ ap (λ x. record { numbers = row.numbers; den = x }) d
  where
    all_numbers : list_below (number_of row) (width_of row) ≡ row.numbers
    all_numbers = ext_get_or (pos 0) _ _ (length-list_below (number_of row) (width_of row)) (λ k lt. get_or-list_below (number_of row) (width_of row) k (pos 0) (rw length-list_below at lt))

pub loop-column-preserved : goal.loop-column-preserved
loop-column-preserved c =
    let f : SFits w128 c.number.result = search rules in
    c.in_ok-push.ensures.items ∙ list_below-push _ c.loop-column.column _ _ c.loop-column.invariant (to_z-of_z w128 c.number.result f ∙ c.number.ensures)

pub returns : goal.returns
returns c = made_is c.args.row.now c.loop-column.column c.from_vec.result c.loop-column.numbers.items _ c.from_vec.ensures c.loop-column.invariant (omega arith) (search rules)
