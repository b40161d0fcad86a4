-- A turn keeps the duals, the matched rows, the tree and its gaps.
use Rattle.std.proofs.Common.{◌≡◌, ◌≢◌, ℕ, ◌+◌, ◌<◌, ◌≤◌, ◌⊎◌, List, length, slice_index, sym, ◌∙◌, ap, subst, inl, inr, arith}
use Rattle.std.proofs.lemmas.Bool.{cases_lt, cases_order}
use Rattle.plan_rotations.specs.best_matching.Worths.{AreWorths, worth_at}
use Rattle.plan_rotations.specs.best_matching.Drafts.{HasDuals, IsMatched, IsPairing, column_dual, column_of, row_dual, row_of}
use Rattle.plan_rotations.specs.best_matching.Trees.{IsRowSearch, IsStem, gap_at, turn_of_column}
use Rattle.plan_rotations.specs.declared.best_matching.matching.TheConstants.{MAX_WORTH}
use Rattle.plan_rotations.specs.declared.best_matching.draft.Draft.{Draft}
use Rattle.plan_rotations.specs.declared.best_matching.tree.Tree.{Tree}
use Rattle.plan_rotations.proofs.best_matching.WideningSteps.{AreNumbers, still_meets}

-- the root's column is outside, and its dual is 0
pub root_outside : (worths : List (List ℕ)) (draft : Draft) (tree : Tree) (root turn : ℕ) → IsRowSearch worths draft tree root turn → root < length worths
    → length worths ≤ turn_of_column tree (column_of draft root)
root_outside worths draft tree root turn s lt = s.stem.outside root lt (omega arith) (omega arith)

-- the gap there is no more than the dual of any reached row
pub enough : (worths : List (List ℕ)) (draft : Draft) (tree : Tree) (root turn : ℕ) → IsRowSearch worths draft tree root turn → root < length worths
    → (row : ℕ) → row < length worths → (row ≡ root) ⊎ (turn_of_column tree (column_of draft row) < length worths) → gap_at tree (column_of draft root) ≤ row_dual draft row
enough worths draft tree root turn s root_lt row lt reached =
    let out = root_outside worths draft tree root turn s root_lt in
    let within : column_of draft root < length worths = s.pairing.column_within root root_lt in
    let none : column_dual draft (column_of draft root) ≡ 0 = s.matched.unused root root_lt (omega arith) (omega arith) in
    elim reached [
      | inl same ↦ subst (λ r. gap_at tree (column_of draft root) ≤ row_dual draft r) (sym same) (from_root _ _ _ _ (s.gaps.least_root (column_of draft root) within out) none)
      | inr joined ↦ from_root _ _ _ _ (s.gaps.least row (column_of draft root) lt within (omega arith) joined out) none
    ]
  where
    from_root : (gap worth row column : ℕ) → gap + worth ≤ row + column → column ≡ 0 → gap ≤ row
    from_root gap worth row column le none = omega arith

-- a column in the tree is that of a matched row
pub joined_matched : (worths : List (List ℕ)) (draft : Draft) (tree : Tree) (root : ℕ) → IsPairing (length worths) draft → IsStem worths draft tree root (length worths)
    → (column : ℕ) → column < length worths → turn_of_column tree column < length worths → row_of draft column < root
joined_matched worths draft tree root pairing stem column lt joined =
    elim (cases_lt (row_of draft column) root) [
      | inl before ↦ before
      | inr after ↦
          let row_lt : row_of draft column < length worths = pairing.row_within column lt in
          let out = stem.outside (row_of draft column) row_lt after (omega arith) in
          let out_here : length worths ≤ turn_of_column tree column = subst (λ k. length worths ≤ turn_of_column tree k) (pairing.column_again column lt) out in
          absurd (omega arith)
    ]

-- its dual has room for that gap
pub room : (worths : List (List ℕ)) (draft : Draft) (tree : Tree) (root turn : ℕ) → AreWorths worths → IsRowSearch worths draft tree root turn → root < length worths
    → (column : ℕ) → column < length worths → turn_of_column tree column < length worths → column_dual draft column + gap_at tree (column_of draft root) ≤ MAX_WORTH
room worths draft tree root turn w s root_lt column lt joined =
    let row = row_of draft column in
    let before : row < root = joined_matched worths draft tree root s.pairing s.stem column lt joined in
    let row_lt : row < length worths = s.pairing.row_within column lt in
    let back : column_of draft row ≡ column = s.pairing.column_again column lt in
    let joined_row : turn_of_column tree (column_of draft row) < length worths = subst (λ k. turn_of_column tree k < length worths) (sym back) joined in
    let le = enough worths draft tree root turn s root_lt row row_lt (inr joined_row) in
    let meets = subst (λ k. row_dual draft row + column_dual draft k ≡ worth_at worths row k) back (s.matched.meet row before) in
    fits _ _ _ _ _ meets le (w.small row column row_lt lt)
  where
    fits : (row column worth gap most : ℕ) → row + column ≡ worth → gap ≤ row → worth ≤ most → column + gap ≤ most
    fits row column worth gap most e le small = omega arith

pub widened_duals : (worths : List (List ℕ)) (old new : Draft) (tree wider : Tree) (root turn next : ℕ) → AreWorths worths → IsRowSearch worths old tree root turn → root < length worths
    → ((column : ℕ) → column < length worths → length worths ≤ turn_of_column tree column → gap_at tree next ≤ gap_at tree column)
    → AreNumbers (length worths) old new tree wider root turn next (gap_at tree next) → HasDuals worths new
widened_duals worths old new tree wider root turn next w s root_lt least a = record {
  reach = λ row column row_lt column_lt. elim (row_cases row) [
    | inl reached ↦ elim (cases_lt (turn_of_column tree column) (length worths)) [
      | inl joined ↦ both _ _ _ _ _ _ (a.lowered row row_lt reached) (a.raised column column_lt joined) (s.duals.reach row column row_lt column_lt)
      | inr out ↦ row_alone _ _ _ _ _ _ _ (a.lowered row row_lt reached) (a.same column column_lt out) (least column column_lt out) (gap_le row column row_lt column_lt reached out)
    ]
    | inr not ↦ elim (cases_lt (turn_of_column tree column) (length worths)) [
      | inl joined ↦ column_alone _ _ _ _ _ _ (a.kept row row_lt not.0 not.1) (a.raised column column_lt joined) (s.duals.reach row column row_lt column_lt)
      | inr out ↦ neither _ _ _ _ _ (a.kept row row_lt not.0 not.1) (a.same column column_lt out) (s.duals.reach row column row_lt column_lt)
    ]
  ];
  small = λ row row_lt. elim (row_cases row) [
    | inl reached ↦ lower _ _ _ _ (a.lowered row row_lt reached) (s.duals.small row row_lt)
    | inr not ↦ rw (a.kept row row_lt not.0 not.1) (s.duals.small row row_lt)
  ];
  column_small = λ column column_lt. elim (cases_lt (turn_of_column tree column) (length worths)) [
    | inl joined ↦
        raise _ _ _ _ _ (a.raised column column_lt joined)
        (least (column_of old root) (s.pairing.column_within root root_lt) (root_outside worths old tree root turn s root_lt))
        (room worths old tree root turn w s root_lt column column_lt joined)
    | inr out ↦ rw (a.same column column_lt out) (s.duals.column_small column column_lt)
  ];
}
  where
    row_cases : (row : ℕ) → ((row ≡ root) ⊎ (turn_of_column tree (column_of old row) < length worths)) ⊎ ((row ≢ root) × (length worths ≤ turn_of_column tree (column_of old row)))
    row_cases row = elim (cases_lt (turn_of_column tree (column_of old row)) (length worths)) [
      | inl joined ↦ inl (inr joined)
      | inr out ↦ elim (cases_order row root) [
        | inl same ↦ inl (inl same)
        | inr other ↦ elim other [ inl less ↦ inr (omega arith, out) | inr more ↦ inr (omega arith, out) ]
      ]
    ]

    gap_le : (row column : ℕ) → row < length worths → column < length worths → (row ≡ root) ⊎ (turn_of_column tree (column_of old row) < length worths)
        → length worths ≤ turn_of_column tree column → gap_at tree column + worth_at worths row column ≤ row_dual old row + column_dual old column
    gap_le row column row_lt column_lt reached out = elim reached [
      | inl same ↦ subst (λ r. gap_at tree column + worth_at worths r column ≤ row_dual old r + column_dual old column) (sym same) (s.gaps.least_root column column_lt out)
      | inr joined ↦ s.gaps.least row column row_lt column_lt (omega arith) joined out
    ]

    both : (row row' column column' by worth : ℕ) → row' + by ≡ row → column' ≡ column + by → worth ≤ row + column → worth ≤ row' + column'
    both row row' column column' by worth e f le = omega arith

    row_alone : (row row' column column' by gap worth : ℕ) → row' + by ≡ row → column' ≡ column → by ≤ gap → gap + worth ≤ row + column → worth ≤ row' + column'
    row_alone row row' column column' by gap worth e f least le = omega arith

    column_alone : (row row' column column' by worth : ℕ) → row' ≡ row → column' ≡ column + by → worth ≤ row + column → worth ≤ row' + column'
    column_alone row row' column column' by worth e f le = omega arith

    neither : (row row' column column' worth : ℕ) → row' ≡ row → column' ≡ column → worth ≤ row + column → worth ≤ row' + column'
    neither row row' column column' worth e f le = omega arith

    lower : (row row' by most : ℕ) → row' + by ≡ row → row ≤ most → row' ≤ most
    lower row row' by most e le = omega arith

    raise : (column column' by gap most : ℕ) → column' ≡ column + by → by ≤ gap → column + gap ≤ most → column' ≤ most
    raise column column' by gap most e le room = omega arith

pub widened_pairing : (size : ℕ) (old new : Draft) (tree wider : Tree) (root turn next by : ℕ) → IsPairing size old
    → length new.row_duals ≡ size → length new.column_duals ≡ size → new.columns ≡ old.columns → new.rows ≡ old.rows → IsPairing size new
widened_pairing size old new tree wider root turn next by p row_duals column_duals columns rows = record {
  row_duals = row_duals;
  column_duals = column_duals;
  columns = ap length columns ∙ p.columns;
  rows = ap length rows ∙ p.rows;
  column_within = λ row lt. subst (λ xs. slice_index xs row < size) (sym columns) (p.column_within row lt);
  row_within = λ column lt. subst (λ xs. slice_index xs column < size) (sym rows) (p.row_within column lt);
  row_again = λ row lt. ap (λ xs. slice_index xs (slice_index new.columns row)) rows ∙ ap (λ xs. slice_index old.rows (slice_index xs row)) columns ∙ p.row_again row lt;
  column_again = λ column lt. ap (λ xs. slice_index xs (slice_index new.rows column)) columns ∙ ap (λ xs. slice_index old.columns (slice_index xs column)) rows ∙ p.column_again column lt;
}

pub widened_matched : (worths : List (List ℕ)) (old new : Draft) (tree wider : Tree) (root turn next : ℕ) → IsRowSearch worths old tree root turn → root < length worths
    → AreNumbers (length worths) old new tree wider root turn next (gap_at tree next) → IsMatched worths new root (length worths)
widened_matched worths old new tree wider root turn next s root_lt a = record {
  meet = λ row before.
      let row_lt : row < length worths = omega arith in
      subst (λ k. row_dual new row + column_dual new k ≡ worth_at worths row k) (sym (a.column_of row))
      (elim (cases_lt (turn_of_column tree (column_of old row)) (length worths)) [
        | inl joined ↦ still_meets _ _ _ _ _ _ (a.lowered row row_lt (inr joined)) (a.raised (column_of old row) (s.pairing.column_within row row_lt) joined) (s.matched.meet row before)
        | inr out ↦ neither _ _ _ _ _ (a.kept row row_lt (omega arith) out) (a.same (column_of old row) (s.pairing.column_within row row_lt) out) (s.matched.meet row before)
      ]);
  unused = λ row row_lt after other.
      ap (column_dual new) (a.column_of row)
      ∙ a.same (column_of old row) (s.pairing.column_within row row_lt) (s.stem.outside row row_lt after other)
      ∙ s.matched.unused row row_lt after other;
}
  where
    neither : (row row' column column' worth : ℕ) → row' ≡ row → column' ≡ column → row + column ≡ worth → row' + column' ≡ worth
    neither row row' column column' worth e f same = omega arith
