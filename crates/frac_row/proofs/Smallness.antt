-- Small rows, by their numbers other than 0.
use Rattle.std.proofs.Common.{◌≡◌, ℕ, suc, ◌≤◌, ◌-◌, ◌^◌, ℤ, pos, List, [], ◌∷◌, unsigned_abs, cond, eqb, Bool, true, false, sym, ◌∙◌, subst, arith}
use Rattle.std.specs.Prelude.{All}
use Rattle.std.proofs.lemmas.List.{get_or_default}
use Rattle.frac_row.specs.Row.{IsSmall}
use Rattle.frac_row.specs.declared.row.FracRow.{FracRow}
use Rattle.frac_row.specs.declared.entry.Entry.{Entry}
use Rattle.frac_row.specs.Content.{number_in, IsHeld, content_of}
use Rattle.frac_row.proofs.Contents.{no_entry, den-content, width_of-content, number_of-held, number_at-held, number_of-place, column_at}

abbrev pub AreSmall : List Entry → Type 0
AreSmall entries = All (λ entry. unsigned_abs entry.number ≤ 2 ^ 63 - 1) entries

number_in-small : (entries : List Entry) (column : ℕ) → AreSmall entries → unsigned_abs (number_in entries column) ≤ 2 ^ 63 - 1
number_in-small [] column h = omega arith
number_in-small (x ∷ xs) column h =
    go (eqb x.column column) x.number (number_in xs column) (h 0 x (omega arith)) (number_in-small xs column (λ k d lt. h (suc k) d (omega arith)))
  where
    go : (b : Bool) (m n : ℤ) → unsigned_abs m ≤ 2 ^ 63 - 1 → unsigned_abs n ≤ 2 ^ 63 - 1 → unsigned_abs (cond b m n) ≤ 2 ^ 63 - 1
    go true m n p q = p
    go false m n p q = q

pub small_from : (entries : List Entry) (width : ℕ) (den : ℤ) (row : FracRow) → IsHeld entries width → content_of entries width den ≡ row → unsigned_abs den ≤ 2 ^ 63 - 1 → AreSmall entries → IsSmall row
small_from entries width den row held view d h = subst IsSmall view (record {
  numbers = λ k e lt. subst (λ n. unsigned_abs n ≤ 2 ^ 63 - 1) (sym (get_or_default (content_of entries width den).numbers k e (pos 0) lt ∙ number_of-held entries width den k held)) (number_in-small entries k h);
  den = subst (λ x. unsigned_abs x ≤ 2 ^ 63 - 1) (sym (den-content entries width den)) d;
})

pub entries_small : (entries : List Entry) (width : ℕ) (den : ℤ) (row : FracRow) → IsHeld entries width → content_of entries width den ≡ row → IsSmall row → AreSmall entries
entries_small entries width den row held view h k e lt =
    let here : IsSmall (content_of entries width den) = subst IsSmall (sym view) h in
    subst (λ x. unsigned_abs x.number ≤ 2 ^ 63 - 1) (sym (get_or_default entries k e no_entry lt))
    (subst (λ n. unsigned_abs n ≤ 2 ^ 63 - 1) (sym (number_at-held entries width den k held lt)) (here.numbers (column_at entries k) (pos 0) (rw width_of-content (number_of-place entries width k held lt))))
