-- A line's numbers, column by column.
use Rattle.std.proofs.Common.{◌≡◌, ℕ, ◌+◌, ◌<◌, ◌≤◌, ℤ, pos, List, [], ◌∷◌, ◌++◌, map, length, get_or, sym, ◌∙◌, ap, arith, length-append}
use Rattle.std.proofs.lemmas.List.{ext_get_or, get_or-map, length-map, get_or_append_left, get_or_push}
use Rattle.sums.specs.Places.{list_below}
use Rattle.sums.proofs.Places.{length-list_below, get_or-list_below}
use Rattle.frac_row.specs.declared.row.FracRow.{FracRow}
use Rattle.frac_row.specs.Lines.{IsFilledRow}
use Rattle.frac_row.proofs.FilledRows.{filled_row}

module _ {X : Type 0} (g : X → ℤ) (xs : List X) (r : ℤ) where
  pub column_number : (k : ℕ) (d : X) → k < length xs → g (get_or xs k d) ≡ get_or (map g xs ++ r ∷ []) k (pos 0)
  column_number k d lt = sym (get_or_append_left (map g xs) (r ∷ []) (pos 0) k (rw length-map lt) ∙ get_or-map g xs k d (pos 0) lt)

  pub right_number : (k : ℕ) → k ≡ length xs → r ≡ get_or (map g xs ++ r ∷ []) k (pos 0)
  right_number k e = sym (get_or_push (map g xs) r (pos 0) k (length-map xs g ∙ sym e))

  pub as_long : length (map g xs ++ r ∷ []) ≡ length xs + 1
  as_long = let both = length-append (map g xs) (r ∷ []) in omega (arith, both, length-map xs g)

-- a row that is filled with all numbers of a list
pub all_filled : (row : FracRow) (numbers : List ℤ) (width column : ℕ) → IsFilledRow row (λ k. get_or numbers k (pos 0)) width column → length numbers ≡ width → width ≤ column → row.numbers ≡ numbers
all_filled row numbers width column h long le =
    ap (λ x. x.numbers) (filled_row row (λ k. get_or numbers k (pos 0)) width column h le)
    ∙ ext_get_or (pos 0) (list_below (λ k. get_or numbers k (pos 0)) width) numbers (length-list_below _ width ∙ sym long)
    (λ k lt. get_or-list_below (λ k. get_or numbers k (pos 0)) width k (pos 0) (rw length-list_below at lt))
