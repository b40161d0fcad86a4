-- What one turn does to the numbers of the draft and the tree.
use Rattle.std.proofs.Common.{◌≡◌, ◌≢◌, ℕ, ◌+◌, ◌-◌, ◌<◌, ◌≤◌, ◌==◌, ◌||◌, ◌⊎◌, nat_lt, Bool, true, false, if◌then◌else◌, List, length, slice_index, slice_set, ◌∙◌, ap, inl, inr, arith, get_or-set_same, get_or-set_other, not-le_of_lt}
use Rattle.std.proofs.lemmas.Bool.{cases_eq, cases_lt, or_right}
use Rattle.std.proofs.lemmas.Bool.Decides.{nat_tests}
use Rattle.sums.specs.Places.{list_below}
use Rattle.sums.proofs.Places.{get_or-list_below}
use Rattle.plan_rotations.specs.best_matching.Drafts.{IsPairing, column_dual, column_of, row_dual}
use Rattle.plan_rotations.specs.best_matching.Trees.{HasSize, IsWidened, from_at, gap_at, is_in_tree, is_reached, turn_of_column}
use Rattle.plan_rotations.specs.declared.best_matching.draft.Draft.{Draft}
use Rattle.plan_rotations.specs.declared.best_matching.tree.Tree.{Tree}

pub widened : (size : ℕ) (old new : Draft) (tree wider : Tree) (root turn next by : ℕ) → IsPairing size old → HasSize size tree
    → new.columns ≡ old.columns → new.rows ≡ old.rows → wider.from ≡ tree.from → by ≡ gap_at tree next
    → new.row_duals ≡ list_below (λ row. if is_reached old.columns tree.turns root row then row_dual old row - by else row_dual old row) (length old.row_duals)
    → new.column_duals ≡ list_below (λ column. if is_in_tree tree.turns column then column_dual old column + by else column_dual old column) (length old.column_duals)
    → wider.gaps ≡ list_below (λ column. if is_in_tree tree.turns column then gap_at tree column else gap_at tree column - by) (length tree.gaps)
    → wider.turns ≡ slice_set tree.turns next turn
    → IsWidened size old new tree wider root turn next
widened size old new tree wider root turn next by pairing sizes columns rows from same row_duals column_duals gaps turns = record {
  columns = columns;
  rows = rows;
  row_duals = row_duals ∙ ap (λ by. list_below (λ row. if is_reached old.columns tree.turns root row then row_dual old row - by else row_dual old row) (length old.row_duals)) same
      ∙ ap (list_below _) pairing.row_duals;
  column_duals = column_duals ∙ ap (λ by. list_below (λ column. if is_in_tree tree.turns column then column_dual old column + by else column_dual old column) (length old.column_duals)) same
      ∙ ap (list_below _) pairing.column_duals;
  gaps = gaps ∙ ap (λ by. list_below (λ column. if is_in_tree tree.turns column then gap_at tree column else gap_at tree column - by) (length tree.gaps)) same
      ∙ ap (list_below _) sizes.gaps;
  from = from;
  turns = turns;
}

-- a column is in the tree or outside
pub in_or_out : (size column : ℕ) (tree : Tree) → HasSize size tree
    → ((is_in_tree tree.turns column ≡ true) × (turn_of_column tree column < size)) ⊎ ((is_in_tree tree.turns column ≡ false) × (size ≤ turn_of_column tree column))
in_or_out size column tree sizes =
    elim (cases_lt (turn_of_column tree column) size) [
      | inl lt ↦ inl (yes (turn_of_column tree column) (length tree.turns) size sizes.turns lt, lt)
      | inr ge ↦ inr (no (turn_of_column tree column) (length tree.turns) size sizes.turns ge, ge)
    ]
  where
    yes : (turn long size : ℕ) → long ≡ size → turn < size → nat_lt turn long ≡ true
    yes turn long size e lt = grind (arith, nat_tests)

    no : (turn long size : ℕ) → long ≡ size → size ≤ turn → nat_lt turn long ≡ false
    no turn long size e ge = grind (arith, nat_tests)

-- a row is reached that is the root or whose column is in the tree
pub reached_or_not : (size root row : ℕ) (draft : Draft) (tree : Tree) → HasSize size tree
    → ((is_reached draft.columns tree.turns root row ≡ true) × ((row ≡ root) ⊎ (turn_of_column tree (column_of draft row) < size)))
    ⊎ ((is_reached draft.columns tree.turns root row ≡ false) × (row ≢ root) × (size ≤ turn_of_column tree (column_of draft row)))
reached_or_not size root row draft tree sizes = elim (in_or_out size (column_of draft row) tree sizes) [
  | inl is ↦ inl (or_right (row == root) (is_in_tree tree.turns (column_of draft row)) is.0, inr is.1)
  | inr not ↦ elim (cases_eq row root) [
    | inl same ↦ inl (or_left row root (is_in_tree tree.turns (column_of draft row)) same, inl same)
    | inr other ↦ inr (neither row root (is_in_tree tree.turns (column_of draft row)) other not.0, other, not.1)
  ]
]
  where
    or_left : (a b : ℕ) (c : Bool) → a ≡ b → ((a == b) || c) ≡ true
    or_left a b c e = grind (arith, nat_tests)

    neither : (a b : ℕ) (c : Bool) → a ≢ b → c ≡ false → ((a == b) || c) ≡ false
    neither a b c e f = grind (arith, nat_tests)

-- a place of a list that was made of a function by cases
when : (n k : ℕ) (p : ℕ → Bool) (f g : ℕ → ℕ) (xs : List ℕ) → xs ≡ list_below (λ j. if p j then f j else g j) n → k < n → p k ≡ true → slice_index xs k ≡ f k
when n k p f g xs e lt holds = ap (λ ys. slice_index ys k) e ∙ get_or-list_below (λ j. if p j then f j else g j) n k 0 lt ∙ choice (p k) (f k) (g k) holds
  where
    choice : (b : Bool) (x y : ℕ) → b ≡ true → ◌≡◌ {A = ℕ} (if b then x else y) x
    choice b x y h = rw h

otherwise : (n k : ℕ) (p : ℕ → Bool) (f g : ℕ → ℕ) (xs : List ℕ) → xs ≡ list_below (λ j. if p j then f j else g j) n → k < n → p k ≡ false → slice_index xs k ≡ g k
otherwise n k p f g xs e lt holds = ap (λ ys. slice_index ys k) e ∙ get_or-list_below (λ j. if p j then f j else g j) n k 0 lt ∙ choice (p k) (f k) (g k) holds
  where
    choice : (b : Bool) (x y : ℕ) → b ≡ false → ◌≡◌ {A = ℕ} (if b then x else y) y
    choice b x y h = rw h

-- a row's dual falls by as much as a column's rises
pub still_meets : (row row' column column' by worth : ℕ) → row' + by ≡ row → column' ≡ column + by → row + column ≡ worth → row' + column' ≡ worth
still_meets row row' column column' by worth e f same = omega arith

-- the numbers after a turn, one by one
pub record AreNumbers (size : ℕ) (old new : Draft) (tree wider : Tree) (root turn next by : ℕ) : Type 0 where
  pub column_of : (row : ℕ) → slice_index new.columns row ≡ slice_index old.columns row
  pub row_of : (column : ℕ) → slice_index new.rows column ≡ slice_index old.rows column
  pub lowered : (row : ℕ) → row < size → (row ≡ root) ⊎ (turn_of_column tree (slice_index old.columns row) < size) → row_dual new row + by ≡ row_dual old row
  pub kept : (row : ℕ) → row < size → row ≢ root → size ≤ turn_of_column tree (slice_index old.columns row) → row_dual new row ≡ row_dual old row
  pub raised : (column : ℕ) → column < size → turn_of_column tree column < size → column_dual new column ≡ column_dual old column + by
  pub same : (column : ℕ) → column < size → size ≤ turn_of_column tree column → column_dual new column ≡ column_dual old column
  pub gap : (column : ℕ) → column < size → size ≤ turn_of_column tree column → gap_at wider column + by ≡ gap_at tree column
  pub from : (column : ℕ) → from_at wider column ≡ from_at tree column
  pub joins : turn_of_column wider next ≡ turn
  pub others : (column : ℕ) → column ≢ next → turn_of_column wider column ≡ turn_of_column tree column

pub numbers_after : (size : ℕ) (old new : Draft) (tree wider : Tree) (root turn next : ℕ) → HasSize size tree → next < size
    → ((row : ℕ) → row < size → (row ≡ root) ⊎ (turn_of_column tree (column_of old row) < size) → gap_at tree next ≤ row_dual old row)
    → ((column : ℕ) → column < size → size ≤ turn_of_column tree column → gap_at tree next ≤ gap_at tree column)
    → IsWidened size old new tree wider root turn next → AreNumbers size old new tree wider root turn next (gap_at tree next)
numbers_after size old new tree wider root turn next sizes within enough least w = record {
  column_of = λ row. ap (λ xs. slice_index xs row) w.columns;
  row_of = λ column. ap (λ xs. slice_index xs column) w.rows;
  lowered = λ row lt reached. elim (reached_or_not size root row old tree sizes) [
    | inl is ↦
        let e = when size row (is_reached old.columns tree.turns root) (λ k. row_dual old k - gap_at tree next) (row_dual old) new.row_duals w.row_duals lt is.0 in
        let le : gap_at tree next ≤ row_dual old row = enough row lt reached in
        lower_again (row_dual old row) (gap_at tree next) (row_dual new row) e le
    | inr not ↦ absurd (elim reached [ inl same ↦ not.1 same | inr lt ↦ not-le_of_lt lt not.2 ])
  ];
  kept = λ row lt other out. elim (reached_or_not size root row old tree sizes) [
    | inl is ↦ absurd (elim is.1 [ inl same ↦ other same | inr lt ↦ not-le_of_lt lt out ])
    | inr not ↦ otherwise size row (is_reached old.columns tree.turns root) (λ k. row_dual old k - gap_at tree next) (row_dual old) new.row_duals w.row_duals lt not.0
  ];
  raised = λ column lt joined. elim (in_or_out size column tree sizes) [
    | inl is ↦ when size column (is_in_tree tree.turns) (λ k. column_dual old k + gap_at tree next) (column_dual old) new.column_duals w.column_duals lt is.0
    | inr not ↦ absurd (not-le_of_lt joined not.1)
  ];
  same = λ column lt out. elim (in_or_out size column tree sizes) [
    | inl is ↦ absurd (not-le_of_lt is.1 out)
    | inr not ↦ otherwise size column (is_in_tree tree.turns) (λ k. column_dual old k + gap_at tree next) (column_dual old) new.column_duals w.column_duals lt not.0
  ];
  gap = λ column lt out. elim (in_or_out size column tree sizes) [
    | inl is ↦ absurd (not-le_of_lt is.1 out)
    | inr not ↦
        let e = otherwise size column (is_in_tree tree.turns) (gap_at tree) (λ k. gap_at tree k - gap_at tree next) wider.gaps w.gaps lt not.0 in
        lower_again (gap_at tree column) (gap_at tree next) (gap_at wider column) e (least column lt out)
  ];
  from = λ column. ap (λ xs. slice_index xs column) w.from;
  joins = ap (λ xs. slice_index xs next) w.turns ∙ get_or-set_same tree.turns next turn 0 (joined_within (length tree.turns) size next sizes.turns within);
  others = λ column other. ap (λ xs. slice_index xs column) w.turns ∙ get_or-set_other tree.turns next column turn 0 other;
}
  where
    lower_again : (old by new : ℕ) → new ≡ old - by → by ≤ old → new + by ≡ old
    lower_again old by new e le = omega arith

    joined_within : (a b c : ℕ) → a ≡ b → c < b → c < a
    joined_within a b c e lt = omega arith
