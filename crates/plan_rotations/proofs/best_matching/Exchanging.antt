-- Two rows that exchange their columns.
use Rattle.std.proofs.Common.{◌≡◌, ◌≢◌, ℕ, ◌<◌, ◌⊎◌, List, length, slice_index, slice_set, sym, ◌∙◌, ap, subst, inl, inr, length-set, get_or-set_same, get_or-set_other}
use Rattle.std.proofs.lemmas.Bool.{cases_eq}
use Rattle.plan_rotations.specs.best_matching.Drafts.{AreColumnsExchanged, IsPairing, column_of, row_of}
use Rattle.plan_rotations.specs.declared.best_matching.draft.Draft.{Draft}

-- places of a list in which two were written
second : (xs ys : List ℕ) (i j x y : ℕ) → ys ≡ slice_set (slice_set xs i x) j y → j < length xs → slice_index ys j ≡ y
second xs ys i j x y e lt = ap (λ zs. slice_index zs j) e ∙ get_or-set_same (slice_set xs i x) j y 0 (subst (λ n. j < n) (sym (length-set xs i x)) lt)

first : (xs ys : List ℕ) (i j x y : ℕ) → ys ≡ slice_set (slice_set xs i x) j y → i < length xs → i ≢ j → slice_index ys i ≡ x
first xs ys i j x y e lt ne = ap (λ zs. slice_index zs i) e ∙ get_or-set_other (slice_set xs i x) j i y 0 ne ∙ get_or-set_same xs i x 0 lt

other_place : (xs ys : List ℕ) (i j k x y : ℕ) → ys ≡ slice_set (slice_set xs i x) j y → k ≢ i → k ≢ j → slice_index ys k ≡ slice_index xs k
other_place xs ys i j k x y e ne_i ne_j = ap (λ zs. slice_index zs k) e ∙ get_or-set_other (slice_set xs i x) j k y 0 ne_j ∙ get_or-set_other xs i k x 0 ne_i

same_length : (xs ys : List ℕ) (i j x y : ℕ) → ys ≡ slice_set (slice_set xs i x) j y → length ys ≡ length xs
same_length xs ys i j x y e = ap length e ∙ length-set (slice_set xs i x) j y ∙ length-set xs i x

-- the columns after it
pub record HaveExchanged (size : ℕ) (old new : Draft) (one other : ℕ) : Type 0 where
  pub at_one : column_of new one ≡ column_of old other
  pub at_other : column_of new other ≡ column_of old one
  pub others : (row : ℕ) → row ≢ one → row ≢ other → column_of new row ≡ column_of old row

pub exchanged_columns : (size : ℕ) (old new : Draft) (one other : ℕ) → IsPairing size old → one < size → other < size → AreColumnsExchanged old new one other
    → HaveExchanged size old new one other
exchanged_columns size old new one other p one_lt other_lt e = record {
  at_one = elim (cases_eq one other) [
    | inl same ↦
        ap (column_of new) same ∙ second old.columns new.columns one other _ _ e.columns (wide other other_lt) ∙ ap (column_of old) same
    | inr differ ↦ first old.columns new.columns one other _ _ e.columns (wide one one_lt) differ
  ];
  at_other = second old.columns new.columns one other _ _ e.columns (wide other other_lt);
  others = λ row ne_one ne_other. other_place old.columns new.columns one other row _ _ e.columns ne_one ne_other;
}
  where
    wide : (k : ℕ) → k < size → k < length old.columns
    wide k lt = subst (λ n. k < n) (sym p.columns) lt

pub exchanged_pairing : (size : ℕ) (old new : Draft) (one other : ℕ) → IsPairing size old → one < size → other < size → AreColumnsExchanged old new one other → IsPairing size new
exchanged_pairing size old new one other p one_lt other_lt e = record {
  row_duals = ap length e.row_duals ∙ p.row_duals;
  column_duals = ap length e.column_duals ∙ p.column_duals;
  columns = same_length old.columns new.columns _ _ _ _ e.columns ∙ p.columns;
  rows = same_length old.rows new.rows _ _ _ _ e.rows ∙ p.rows;
  column_within = λ row lt. elim (row_cases row) [
    | inl is_one ↦ subst (λ k. k < size) (sym (ap (column_of new) is_one ∙ h.at_one)) (p.column_within other other_lt)
    | inr rest ↦ elim rest [
      | inl is_other ↦ subst (λ k. k < size) (sym (ap (column_of new) is_other ∙ h.at_other)) (p.column_within one one_lt)
      | inr ne ↦ subst (λ k. k < size) (sym (h.others row ne.0 ne.1)) (p.column_within row lt)
    ]
  ];
  row_within = λ column lt. elim (column_cases column) [
    | inl is_one ↦ subst (λ k. k < size) (sym (ap (row_of new) is_one ∙ row_one)) other_lt
    | inr rest ↦ elim rest [
      | inl is_other ↦ subst (λ k. k < size) (sym (ap (row_of new) is_other ∙ row_other)) one_lt
      | inr ne ↦ subst (λ k. k < size) (sym (row_rest column ne.1 ne.0)) (p.row_within column lt)
    ]
  ];
  row_again = λ row lt. elim (row_cases row) [
    | inl is_one ↦ ap (row_of new) (ap (column_of new) is_one ∙ h.at_one) ∙ row_other ∙ sym is_one
    | inr rest ↦ elim rest [
      | inl is_other ↦ ap (row_of new) (ap (column_of new) is_other ∙ h.at_other) ∙ row_one ∙ sym is_other
      | inr ne ↦
          ap (row_of new) (h.others row ne.0 ne.1)
          ∙ row_rest (column_of old row) (apart row other lt other_lt ne.1) (apart row one lt one_lt ne.0)
          ∙ p.row_again row lt
    ]
  ];
  column_again = λ column lt. elim (column_cases column) [
    | inl is_one ↦ ap (column_of new) (ap (row_of new) is_one ∙ row_one) ∙ h.at_other ∙ sym is_one
    | inr rest ↦ elim rest [
      | inl is_other ↦ ap (column_of new) (ap (row_of new) is_other ∙ row_other) ∙ h.at_one ∙ sym is_other
      | inr ne ↦
          ap (column_of new) (row_rest column ne.1 ne.0)
          ∙ h.others (row_of old column) (row_apart column one lt one_lt ne.0) (row_apart column other lt other_lt ne.1)
          ∙ p.column_again column lt
    ]
  ];
}
  where
    h : HaveExchanged size old new one other
    h = exchanged_columns size old new one other p one_lt other_lt e

    wide : (k : ℕ) → k < size → k < length old.rows
    wide k lt = subst (λ n. k < n) (sym p.rows) lt

    row_cases : (row : ℕ) → (row ≡ one) ⊎ ((row ≡ other) ⊎ ((row ≢ one) × (row ≢ other)))
    row_cases row = elim (cases_eq row one) [
      | inl same ↦ inl same
      | inr ne ↦ elim (cases_eq row other) [ inl same ↦ inr (inl same) | inr ne_other ↦ inr (inr (ne, ne_other)) ]
    ]

    column_cases : (column : ℕ) → (column ≡ column_of old one) ⊎ ((column ≡ column_of old other) ⊎ ((column ≢ column_of old one) × (column ≢ column_of old other)))
    column_cases column = elim (cases_eq column (column_of old one)) [
      | inl same ↦ inl same
      | inr ne ↦ elim (cases_eq column (column_of old other)) [ inl same ↦ inr (inl same) | inr ne_other ↦ inr (inr (ne, ne_other)) ]
    ]

    -- rows that differ have columns that differ, and the other way
    apart : (row k : ℕ) → row < size → k < size → row ≢ k → column_of old row ≢ column_of old k
    apart row k lt k_lt ne same = ne (sym (p.row_again row lt) ∙ ap (row_of old) same ∙ p.row_again k k_lt)

    row_apart : (column k : ℕ) → column < size → k < size → column ≢ column_of old k → row_of old column ≢ k
    row_apart column k lt k_lt ne same = ne (sym (p.column_again column lt) ∙ ap (column_of old) same)

    row_one : row_of new (column_of old one) ≡ other
    row_one = second old.rows new.rows (column_of old other) (column_of old one) one other e.rows (wide (column_of old one) (p.column_within one one_lt))

    row_other : row_of new (column_of old other) ≡ one
    row_other = elim (cases_eq one other) [
      | inl same ↦ ap (λ k. row_of new (column_of old k)) (sym same) ∙ row_one ∙ sym same
      | inr differ ↦ first old.rows new.rows (column_of old other) (column_of old one) one other e.rows (wide (column_of old other) (p.column_within other other_lt))
          (apart other one other_lt one_lt (λ same. differ (sym same)))
    ]

    row_rest : (column : ℕ) → column ≢ column_of old other → column ≢ column_of old one → row_of new column ≡ row_of old column
    row_rest column ne_other ne_one = other_place old.rows new.rows (column_of old other) (column_of old one) column one other e.rows ne_other ne_one
