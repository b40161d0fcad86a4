-- A turn keeps the tree and its gaps, but for the row of the column that has joined.
use Rattle.std.proofs.Common.{◌≡◌, ◌≢◌, ℕ, ◌+◌, ◌<◌, ◌≤◌, ◌⊎◌, List, length, refl, sym, ◌∙◌, ap, subst, inl, inr, arith, lt_trans}
use Rattle.std.proofs.lemmas.Bool.{cases_eq}
use Rattle.sums.proofs.Naturals.{less_alike}
use Rattle.plan_rotations.specs.best_matching.Worths.{worth_at}
use Rattle.plan_rotations.specs.best_matching.Drafts.{column_dual, column_of, row_dual, row_of}
use Rattle.plan_rotations.specs.best_matching.Trees.{HasGaps, IsRowSearch, IsStem, from_at, gap_at, turn_of_column}
use Rattle.plan_rotations.specs.declared.best_matching.draft.Draft.{Draft}
use Rattle.plan_rotations.specs.declared.best_matching.tree.Tree.{Tree}
use Rattle.plan_rotations.proofs.best_matching.WideningSteps.{AreNumbers, still_meets}

-- two columns of which one is in the tree and one outside
differ : (tree : Tree) (one other size : ℕ) → turn_of_column tree one < size → size ≤ turn_of_column tree other → one ≢ other
differ tree one other size joined out same = apart _ _ _ joined out (ap (turn_of_column tree) same)
  where
    apart : (a b m : ℕ) → a < m → m ≤ b → a ≡ b → ⊥
    apart a b m lt ge e = omega arith

-- where the gap of the column was the least, they do now
closes : (row row' column column' by worth : ℕ) → row' + by ≡ row → column' ≡ column → by + worth ≡ row + column → row' + column' ≡ worth
closes row row' column column' by worth e f same = omega arith

pub widened_stem : (worths : List (List ℕ)) (old new : Draft) (tree wider : Tree) (root turn next : ℕ) → IsRowSearch worths old tree root turn → root < length worths
    → next < length worths → length worths ≤ turn_of_column tree next → turn < length worths
    → AreNumbers (length worths) old new tree wider root turn next (gap_at tree next) → IsStem worths new wider root (row_of old next)
widened_stem worths old new tree wider root turn next s root_lt next_lt next_out turn_lt a = record {
  within = λ column lt. subst (λ k. k < length worths) (sym (a.from column)) (s.stem.within column lt);
  meet = λ column lt joined. subst (λ k. row_dual new k + column_dual new column ≡ worth_at worths k column) (sym (a.from column)) (meets column lt joined (cases_eq column next));
  before = λ column lt joined. subst (λ k. (k ≡ root) ⊎ (turn_of_column wider (column_of new k) < turn_of_column wider column)) (sym (a.from column)) (leads column lt joined (cases_eq column next));
  outside = λ row row_lt after other.
      let ne : column_of old row ≢ next = λ same. other (sym (s.pairing.row_again row row_lt) ∙ ap (row_of old) same) in
      subst (λ k. length worths ≤ turn_of_column wider k) (sym (a.column_of row))
      (subst (λ k. length worths ≤ k) (sym (a.others (column_of old row) ne)) (s.stem.outside row row_lt after (omega arith)));
}
  where
    meets : (column : ℕ) → column < length worths → turn_of_column wider column < length worths → (column ≡ next) ⊎ (column ≢ next)
        → row_dual new (from_at tree column) + column_dual new column ≡ worth_at worths (from_at tree column) column
    meets column lt joined (inl same) =
        subst (λ k. row_dual new (from_at tree k) + column_dual new k ≡ worth_at worths (from_at tree k) k) (sym same)
        (closes _ _ _ _ _ _ (a.lowered (from_at tree next) (s.stem.within next next_lt) (s.gaps.reached next next_lt next_out)) (a.same next next_lt next_out) (s.gaps.met next next_lt next_out))
    meets column lt joined (inr other) =
        let joined_before : turn_of_column tree column < length worths = subst (λ k. k < length worths) (a.others column other) joined in
        still_meets _ _ _ _ _ _ (a.lowered (from_at tree column) (s.stem.within column lt) (reached column lt joined_before)) (a.raised column lt joined_before) (s.stem.meet column lt joined_before)
      where
        reached : (column : ℕ) → column < length worths → turn_of_column tree column < length worths → (from_at tree column ≡ root) ⊎ (turn_of_column tree (column_of old (from_at tree column)) < length worths)
        reached column lt joined_before = elim (s.stem.before column lt joined_before) [ inl same ↦ inl same | inr less ↦ inr (lt_trans less joined_before) ]

    leads : (column : ℕ) → column < length worths → turn_of_column wider column < length worths → (column ≡ next) ⊎ (column ≢ next)
        → (from_at tree column ≡ root) ⊎ (turn_of_column wider (column_of new (from_at tree column)) < turn_of_column wider column)
    leads column lt joined (inl same) =
        subst (λ k. (from_at tree k ≡ root) ⊎ (turn_of_column wider (column_of new (from_at tree k)) < turn_of_column wider k)) (sym same)
        (elim (s.gaps.reached next next_lt next_out) [
          | inl is_root ↦ inl is_root
          | inr in_tree ↦
              let ne : column_of old (from_at tree next) ≢ next = differ tree _ _ _ in_tree next_out in
              let column_lt : column_of old (from_at tree next) < length worths = s.pairing.column_within (from_at tree next) (s.stem.within next next_lt) in
              inr (less_alike _ _ _ _ (ap (turn_of_column wider) (a.column_of (from_at tree next)) ∙ a.others _ ne) a.joins (s.turns.earlier _ column_lt in_tree))
        ])
    leads column lt joined (inr other) =
        let joined_before : turn_of_column tree column < length worths = subst (λ k. k < length worths) (a.others column other) joined in
        elim (s.stem.before column lt joined_before) [
          | inl is_root ↦ inl is_root
          | inr less ↦
              let ne : column_of old (from_at tree column) ≢ next = differ tree _ _ _ (lt_trans less joined_before) next_out in
              inr (less_alike _ _ _ _ (ap (turn_of_column wider) (a.column_of (from_at tree column)) ∙ a.others _ ne) (a.others column other) less)
        ]

-- a tree that has reached a matched row leaves no row out
pub stem_matched : (worths : List (List ℕ)) (draft : Draft) (tree : Tree) (root free : ℕ) → IsStem worths draft tree root free → free < root
    → IsStem worths draft tree root (length worths)
stem_matched worths draft tree root free stem before = record {
  within = stem.within;
  meet = stem.meet;
  before = stem.before;
  outside = λ row lt after other. stem.outside row lt after (omega arith);
}

pub widened_gaps : (worths : List (List ℕ)) (old new : Draft) (tree wider : Tree) (root turn next : ℕ) → IsRowSearch worths old tree root turn → root < length worths
    → next < length worths → length worths ≤ turn_of_column tree next → turn < length worths
    → AreNumbers (length worths) old new tree wider root turn next (gap_at tree next) → HasGaps worths new wider root (row_of old next)
widened_gaps worths old new tree wider root turn next s root_lt next_lt next_out turn_lt a = record {
  least_root = λ column lt out.
      let out_before = was_out column out in
      lower _ _ _ _ _ _ _ (a.gap column lt out_before) (a.lowered root root_lt (inl refl)) (a.same column lt out_before) (s.gaps.least_root column lt out_before);
  least = λ row column row_lt lt other joined out.
      let out_before = was_out column out in
      let joined_before = was_in row row_lt other joined in
      lower _ _ _ _ _ _ _ (a.gap column lt out_before) (a.lowered row row_lt (inr joined_before)) (a.same column lt out_before)
      (s.gaps.least row column row_lt lt (omega arith) joined_before out_before);
  met = λ column lt out.
      let out_before = was_out column out in
      subst (λ k. gap_at wider column + worth_at worths k column ≡ row_dual new k + column_dual new column) (sym (a.from column))
      (meets _ _ _ _ _ _ _ (a.gap column lt out_before) (a.lowered (from_at tree column) (s.stem.within column lt) (s.gaps.reached column lt out_before)) (a.same column lt out_before)
      (s.gaps.met column lt out_before));
  reached = λ column lt out.
      let out_before = was_out column out in
      subst (λ k. (k ≡ root) ⊎ (turn_of_column wider (column_of new k) < length worths)) (sym (a.from column))
      (elim (s.gaps.reached column lt out_before) [
        | inl is_root ↦ inl is_root
        | inr in_tree ↦
            let ne : column_of old (from_at tree column) ≢ next = differ tree _ _ _ in_tree next_out in
            inr (subst (λ k. k < length worths) (sym (ap (turn_of_column wider) (a.column_of (from_at tree column)) ∙ a.others _ ne)) in_tree)
      ]);
}
  where
    was_out : (column : ℕ) → length worths ≤ turn_of_column wider column → length worths ≤ turn_of_column tree column
    was_out column out = elim (cases_eq column next) [
      | inl same ↦ subst (λ k. length worths ≤ turn_of_column tree k) (sym same) next_out
      | inr other ↦ subst (λ k. length worths ≤ k) (a.others column other) out
    ]

    was_in : (row : ℕ) → row < length worths → row ≢ row_of old next → turn_of_column wider (column_of new row) < length worths → turn_of_column tree (column_of old row) < length worths
    was_in row lt other joined =
        let ne : column_of old row ≢ next = λ same. other (sym (s.pairing.row_again row lt) ∙ ap (row_of old) same) in
        subst (λ k. k < length worths) (ap (turn_of_column wider) (a.column_of row) ∙ a.others _ ne) joined

    lower : (gap gap' by worth row row' column : ℕ) {column' : ℕ} → gap' + by ≡ gap → row' + by ≡ row → column' ≡ column → gap + worth ≤ row + column → gap' + worth ≤ row' + column'
    lower gap gap' by worth row row' column e f g le = omega arith

    meets : (gap gap' by worth row row' column : ℕ) {column' : ℕ} → gap' + by ≡ gap → row' + by ≡ row → column' ≡ column → gap + worth ≡ row + column → gap' + worth ≡ row' + column'
    meets gap gap' by worth row row' column e f g same = omega arith
