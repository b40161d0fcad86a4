-- Rows that take the places of others.
use Rattle.std.proofs.Common.{◌≡◌, ℕ, ◌+◌, ◌<◌, ◌≤◌, ◌≢◌, List, [], ◌∷◌, ◌++◌, length, get_or, set, Option, Some, None, refl, sym, ◌∙◌, ap, subst, arith, inl, inr, length-set, get_or-set_same, get_or-set_other}
use Rattle.std.proofs.lemmas.Bool.{cases_lt}
use Rattle.std.proofs.lemmas.List.{ext_get_or, get_or_append_left, get_or_push, length-append}
use Rattle.sums.specs.Places.{list_below}
use Rattle.sums.proofs.Places.{length-list_below, get_or-list_below, list_below-agree}
use Rattle.frac_row.specs.declared.row.FracRow.{FracRow}
use Rattle.row_store.specs.Table.{no_row, row_at}
use Rattle.row_store.specs.Pivot.{new_row, pivoted}
use Rattle.row_store.specs.Changes.{value_or, row_after}

-- ---- the changes of a table are made row by row
pub record AreMade {R : Type 0} (full : R → FracRow) (table : List FracRow) (target : ℕ → FracRow) (changes : List (Option R)) (bound : ℕ) : Type 0 where
  pub same_length : length changes ≡ bound
  pub made : (place : ℕ) → place < bound → row_after full table changes place ≡ target place

pub made_none : {R : Type 0} (full : R → FracRow) (table : List FracRow) (target : ℕ → FracRow) (changes : List (Option R)) → changes ≡ [] → AreMade full table target changes 0
made_none full table target changes e = record { same_length = ap length e; made = λ k lt. absurd (none_below k lt) }
  where
    none_below : (k : ℕ) → k < 0 → ⊥
    none_below k lt = omega arith

pub made_more : {R : Type 0} (full : R → FracRow) (table : List FracRow) (target : ℕ → FracRow) (changes new : List (Option R)) (bound : ℕ) (last : Option R) → AreMade full table target changes bound → value_or full last (row_at table bound) ≡ target bound → new ≡ changes ++ last ∷ [] → AreMade full table target new (bound + 1)
made_more {R} full table target changes new bound last h e same = subst (λ xs. AreMade full table target xs (bound + 1)) (sym same) (record {
  same_length = length-append changes (last ∷ []) ∙ ap (λ n. n + 1) h.same_length;
  made = λ k below. elim (cases_lt k bound) [
    | inl less ↦ ap (λ o. value_or full o (row_at table k)) (get_or_append_left changes (last ∷ []) None k (rw h.same_length less)) ∙ h.made k less
    | inr ge ↦ let eq : bound ≡ k = omega arith in subst (λ i. row_after full table (changes ++ last ∷ []) i ≡ target i) eq (ap (λ o. value_or full o (row_at table bound)) (get_or_push changes last None bound h.same_length) ∙ e)
  ];
})

-- ---- the last changes are in their places, and those that are left are not
pub record IsPut {R : Type 0} (full : R → FracRow) (old new : List FracRow) (all left : List (Option R)) : Type 0 where
  pub same_length : length new ≡ length old
  pub short : length left ≤ length old
  pub first : (place : ℕ) → place < length left → get_or left place None ≡ get_or all place None
  pub kept : (place : ℕ) → place < length left → row_at new place ≡ row_at old place
  pub put : (place : ℕ) → length left ≤ place → place < length old → row_at new place ≡ row_after full old all place

pub put_none : {R : Type 0} (full : R → FracRow) (old : List FracRow) (all : List (Option R)) → length all ≡ length old → IsPut full old old all all
put_none full old all same = record {
  same_length = refl;
  short = omega (arith, same);
  first = λ k lt. refl;
  kept = λ k lt. refl;
  put = λ k ge lt. absurd (never k ge lt);
}
  where
    never : (k : ℕ) → length all ≤ k → k < length old → ⊥
    never k ge lt = omega (arith, same)

-- one place more: its row is the changed one
pub put_more : {R : Type 0} (full : R → FracRow) (old rows new : List FracRow) (all changes left : List (Option R)) (last : Option R) → IsPut full old rows all changes → changes ≡ left ++ last ∷ [] → length new ≡ length rows → row_at new (length left) ≡ value_or full last (row_at rows (length left)) → ((place : ℕ) → place ≢ length left → row_at new place ≡ row_at rows place) → IsPut full old new all left
put_more full old rows new all changes left last h e same here others =
    let longer : length changes ≡ length left + 1 = ap length e ∙ length-append left (last ∷ []) in
    let read : get_or changes (length left) None ≡ last = ap (λ xs. get_or xs (length left) None) e ∙ get_or_push left last None (length left) refl in
    record {
      same_length = same ∙ h.same_length;
      short = omega (arith, longer, h.short);
      first = λ k lt. sym (get_or_append_left left (last ∷ []) None k lt) ∙ ap (λ xs. get_or xs k None) (sym e) ∙ h.first k (omega (arith, longer));
      kept = λ k lt. others k (apart k lt) ∙ h.kept k (omega (arith, longer));
      put = λ k ge lt. elim (cases_lt (length left) k) [
        | inl past ↦ others k (behind k past) ∙ h.put k (omega (arith, longer)) lt
        | inr le ↦ let eq : length left ≡ k = omega arith in subst (λ i. row_at new i ≡ row_after full old all i) eq
            (here ∙ ap (value_or full last) (h.kept (length left) (omega (arith, longer))) ∙ ap (λ o. value_or full o (row_at old (length left))) (sym read ∙ h.first (length left) (omega (arith, longer))))
      ];
    }
  where
    apart : (k : ℕ) → k < length left → k ≢ length left
    apart k lt = omega arith

    behind : (k : ℕ) → length left < k → k ≢ length left
    behind k lt = omega arith

pub put_fresh : {R : Type 0} (full : R → FracRow) (old rows new : List FracRow) (all changes left : List (Option R)) (fresh : R) (place : ℕ) → IsPut full old rows all changes → changes ≡ left ++ Some fresh ∷ [] → place ≡ length left → new ≡ set rows place (full fresh) → IsPut full old new all left
put_fresh full old rows new all changes left fresh place h e here is =
    let longer : length changes ≡ length left + 1 = ap length e ∙ length-append left (Some fresh ∷ []) in
    let same : new ≡ set rows (length left) (full fresh) = is ∙ ap (λ k. set rows k (full fresh)) here in
    put_more full old rows new all changes left (Some fresh) h e (ap length same ∙ length-set rows (length left) (full fresh))
    (ap (λ t. row_at t (length left)) same ∙ get_or-set_same rows (length left) (full fresh) no_row (omega (arith, longer, h.short, h.same_length)))
    (λ k apart. ap (λ t. row_at t k) same ∙ get_or-set_other rows (length left) k (full fresh) no_row apart)

pub put_all : {R : Type 0} (full : R → FracRow) (old new : List FracRow) (all left : List (Option R)) → IsPut full old new all left → left ≡ [] → new ≡ list_below (row_after full old all) (length old)
put_all full old new all left h e =
    ext_get_or no_row _ _ (h.same_length ∙ sym (length-list_below _ (length old)))
    (λ k lt. each k (rw h.same_length at lt))
  where
    each : (k : ℕ) → k < length old → row_at new k ≡ get_or (list_below (row_after full old all) (length old)) k no_row
    each k lt = h.put k (rw e (omega arith)) lt ∙ sym (get_or-list_below (row_after full old all) (length old) k no_row lt)

-- where the changes are those of a pivot, so is the table
pub put_is : {R : Type 0} (full : R → FracRow) (table new : List FracRow) (changes : List (Option R)) (row column : ℕ) → new ≡ list_below (row_after full table changes) (length table) → ((place : ℕ) → place < length table → row_after full table changes place ≡ new_row table row column place) → new ≡ pivoted table row column
unfolding pivoted
put_is full table new changes row column e made = e ∙ list_below-agree _ _ (length table) made
