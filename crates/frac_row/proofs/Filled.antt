-- A row that is filled from its first column on.
use Rattle.std.proofs.Common.{◌≡◌, ℕ, ◌+◌, ◌<◌, ◌≤◌, ◌≢◌, cond, eqb, ℤ, pos, List, [], ◌∷◌, ◌++◌, get_or, set, refl, sym, ◌∙◌, ap, subst, arith, inl, inr, ◌⊎◌, length-set, get_or-set_same, get_or-set_other}
use Rattle.std.proofs.lemmas.Bool.{cases_eq, cases_lt}
use Rattle.std.proofs.lemmas.List.{ext_get_or}
use Rattle.sums.specs.Places.{list_below}
use Rattle.sums.proofs.Places.{length-list_below, get_or-list_below}
use Rattle.sums.proofs.NumberTests.{if_apart, if_same}
use Rattle.frac_row.specs.Row.{number_of, width_of}
use Rattle.frac_row.specs.declared.row.FracRow.{FracRow}
use Rattle.frac_row.proofs.Rows.{same_row}
use Rattle.frac_row.specs.declared.entry.Entry.{Entry}
use Rattle.frac_row.specs.Content.{number_in, AreEntries, IsHeld, content_of}
use Rattle.frac_row.proofs.Contents.{number_of-held, width_of-content}

-- from a column on nothing stands there
abbrev pub NothingFrom : List Entry → ℕ → Type 0
NothingFrom entries column = (place : ℕ) → column ≤ place → number_in entries place ≡ pos 0

first_before : (from width : ℕ) (x : Entry) (xs : List Entry) (column : ℕ) → AreEntries from width (x ∷ xs) → NothingFrom (x ∷ xs) column → x.column < column
first_before from width x xs column h none =
    elim (cases_lt x.column column) [ inl lt ↦ lt | inr ge ↦ absurd (h.2 (sym (if_same x.column x.column x.number _ refl) ∙ none x.column ge)) ]

nothing_behind : (x : Entry) (xs : List Entry) (column : ℕ) → x.column < column → NothingFrom (x ∷ xs) column → NothingFrom xs column
nothing_behind x xs column lt none place ge = sym (if_apart x.column place x.number (number_in xs place) (apart ge)) ∙ none place ge
  where
    apart : column ≤ place → x.column ≢ place
    apart ge = omega arith

entries_more : (from width : ℕ) (xs : List Entry) (e : Entry) → AreEntries from width xs → NothingFrom xs e.column → from ≤ e.column → e.column < width → e.number ≢ pos 0 → AreEntries from width (xs ++ e ∷ [])
entries_more from width [] e h none le lt some = (le, lt, some, tt)
entries_more from width (x ∷ xs) e h none le lt some =
    let before : x.column < e.column = first_before from width x xs e.column h none in
    (h.0, h.1, h.2, entries_more (x.column + 1) width xs e h.3 (nothing_behind x xs e.column before none) (omega arith) lt some)

number_in-more : (from width : ℕ) (xs : List Entry) (e : Entry) (column : ℕ) → AreEntries from width xs → NothingFrom xs e.column → number_in (xs ++ e ∷ []) column ≡ cond (eqb e.column column) e.number (number_in xs column)
number_in-more from width [] e column h none = refl
number_in-more from width (x ∷ xs) e column h none =
    let before : x.column < e.column = first_before from width x xs e.column h none in
    turn before (cases_eq x.column column) (number_in-more (x.column + 1) width xs e column h.3 (nothing_behind x xs e.column before none))
  where
    turn : x.column < e.column → (x.column ≡ column) ⊎ (x.column ≢ column) → number_in (xs ++ e ∷ []) column ≡ cond (eqb e.column column) e.number (number_in xs column) → cond (eqb x.column column) x.number (number_in (xs ++ e ∷ []) column) ≡ cond (eqb e.column column) e.number (cond (eqb x.column column) x.number (number_in xs column))
    turn before (inl same) later =
        if_same x.column column _ _ same ∙ sym (if_same x.column column x.number (number_in xs column) same) ∙ sym (if_apart e.column column _ _ (apart before same))
      where
        apart : x.column < e.column → x.column ≡ column → e.column ≢ column
        apart lt e = omega arith
    turn before (inr ne) later =
        if_apart x.column column _ _ ne ∙ later ∙ ap (cond (eqb e.column column) e.number) (sym (if_apart x.column column x.number (number_in xs column) ne))

pub held_more : (xs new : List Entry) (width : ℕ) (e : Entry) → IsHeld xs width → NothingFrom xs e.column → e.column < width → e.number ≢ pos 0 → new ≡ xs ++ e ∷ [] → IsHeld new width
held_more xs new width e h none lt some same =
    subst (λ ys. IsHeld ys width) (sym same) (record { few = h.few; rising = entries_more 0 width xs e h.rising none (omega arith) lt some })

pub content-more : (xs new : List Entry) (width : ℕ) (den : ℤ) (e : Entry) → IsHeld xs width → NothingFrom xs e.column → e.column < width → new ≡ xs ++ e ∷ [] → content_of new width den ≡ record { numbers = set (content_of xs width den).numbers e.column e.number; den = den }
unfolding content_of
content-more xs new width den e h none lt same =
    same_row (list_below (number_in new) width) (set (list_below (number_in xs) width) e.column e.number) den den
    (ext_get_or (pos 0) _ _ (length-list_below _ width ∙ sym (length-set _ e.column e.number ∙ length-list_below _ width)) (λ k in_range. at_column k (rw length-list_below at in_range))) refl
  where
    here : (k : ℕ) → k < width → (e.column ≡ k) ⊎ (e.column ≢ k) → cond (eqb e.column k) e.number (number_in xs k) ≡ get_or (set (list_below (number_in xs) width) e.column e.number) k (pos 0)
    here k below (inl same) =
        if_same e.column k _ _ same ∙ sym (subst (λ i. get_or (set (list_below (number_in xs) width) e.column e.number) i (pos 0) ≡ e.number) same (get_or-set_same (list_below (number_in xs) width) e.column e.number (pos 0) (rw length-list_below lt)))
    here k below (inr ne) =
        if_apart e.column k _ _ ne ∙ sym (get_or-list_below (number_in xs) width k (pos 0) below) ∙ sym (get_or-set_other (list_below (number_in xs) width) e.column k e.number (pos 0) (λ s. ne (sym s)))

    at_column : (k : ℕ) → k < width → get_or (list_below (number_in new) width) k (pos 0) ≡ get_or (set (list_below (number_in xs) width) e.column e.number) k (pos 0)
    at_column k below =
        get_or-list_below (number_in new) width k (pos 0) below ∙ ap (λ ys. number_in ys k) same ∙ number_in-more 0 width xs e k h.rising none ∙ here k below (cases_eq e.column k)

-- what the value of a row says of what is held
pub nothing_from_value : (xs : List Entry) (width : ℕ) (den : ℤ) (row : FracRow) (column : ℕ) → IsHeld xs width → content_of xs width den ≡ row → ((place : ℕ) → column ≤ place → number_of row place ≡ pos 0) → NothingFrom xs column
nothing_from_value xs width den row column h view none place ge =
    sym (number_of-held xs width den place h) ∙ ap (λ r. number_of r place) view ∙ none place ge

pub within_value : (xs : List Entry) (width : ℕ) (den : ℤ) (row : FracRow) (column : ℕ) → content_of xs width den ≡ row → column < width_of row → column < width
within_value xs width den row column view lt = subst (λ w. column < w) (sym (ap width_of view) ∙ width_of-content xs width den) lt
