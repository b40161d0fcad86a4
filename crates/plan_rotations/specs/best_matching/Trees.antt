-- The tree that is grown from a row in search of a free column. A column joins it at a turn; before that it stands at the
-- number of all columns. A row is reached that is the root, or whose column is in the tree.
use Rattle.std.specs.Prelude.{ℕ, ◌+◌, ◌-◌, ◌<◌, ◌≤◌, ◌≡◌, ◌≢◌, ◌==◌, ◌||◌, ◌⊎◌, nat_lt, Bool, if◌then◌else◌, List, length, slice_index, slice_set}
use Rattle.sums.specs.Below.{count_below}
use Rattle.plan_rotations.specs.best_matching.Worths.{worth_at}
use Rattle.sums.specs.Places.{list_below}
use Rattle.plan_rotations.specs.best_matching.Drafts.{HasDuals, IsMatched, IsPairing, column_dual, column_of, row_dual}
use Rattle.plan_rotations.specs.declared.best_matching.draft.Draft.{Draft}
use Rattle.plan_rotations.specs.declared.best_matching.tree.Tree.{Tree}

abbrev pub gap_at : Tree → ℕ → ℕ
gap_at tree column = slice_index tree.gaps column

abbrev pub from_at : Tree → ℕ → ℕ
from_at tree column = slice_index tree.from column

abbrev pub turn_of_column : Tree → ℕ → ℕ
turn_of_column tree column = slice_index tree.turns column

-- whether a column is in the tree, by the turns
abbrev pub is_in_tree : List ℕ → ℕ → Bool
is_in_tree turns column = nat_lt (slice_index turns column) (length turns)

-- whether a row is reached, by the columns of the rows and the turns
abbrev pub is_reached : List ℕ → List ℕ → ℕ → ℕ → Bool
is_reached columns turns root row = (row == root) || is_in_tree turns (slice_index columns row)

pub record HasSize (size : ℕ) (tree : Tree) : Type 0 where
  pub gaps : length tree.gaps ≡ size
  pub from : length tree.from ≡ size
  pub turns : length tree.turns ≡ size

-- a column in the tree was reached from a row where the duals meet the worth, that row from a column before; the columns
-- of the root and the rows after it are outside, but for that of one row
pub record IsStem (worths : List (List ℕ)) (draft : Draft) (tree : Tree) (root free : ℕ) : Type 0 where
  pub within : (column : ℕ) → column < length worths → from_at tree column < length worths
  pub meet : (column : ℕ) → column < length worths → turn_of_column tree column < length worths
      → row_dual draft (from_at tree column) + column_dual draft column ≡ worth_at worths (from_at tree column) column
  pub before : (column : ℕ) → column < length worths → turn_of_column tree column < length worths
      → (from_at tree column ≡ root) ⊎ (turn_of_column tree (column_of draft (from_at tree column)) < turn_of_column tree column)
  pub outside : (row : ℕ) → row < length worths → root ≤ row → row ≢ free → length worths ≤ turn_of_column tree (column_of draft row)

-- the gap of a column outside is the least from a reached row, and is that from one; one row may be left out
pub record HasGaps (worths : List (List ℕ)) (draft : Draft) (tree : Tree) (root but : ℕ) : Type 0 where
  pub least_root : (column : ℕ) → column < length worths → length worths ≤ turn_of_column tree column
      → gap_at tree column + worth_at worths root column ≤ row_dual draft root + column_dual draft column
  pub least : (row column : ℕ) → row < length worths → column < length worths → row ≢ but → turn_of_column tree (column_of draft row) < length worths
      → length worths ≤ turn_of_column tree column → gap_at tree column + worth_at worths row column ≤ row_dual draft row + column_dual draft column
  pub met : (column : ℕ) → column < length worths → length worths ≤ turn_of_column tree column
      → gap_at tree column + worth_at worths (from_at tree column) column ≡ row_dual draft (from_at tree column) + column_dual draft column
  pub reached : (column : ℕ) → column < length worths → length worths ≤ turn_of_column tree column
      → (from_at tree column ≡ root) ⊎ (turn_of_column tree (column_of draft (from_at tree column)) < length worths)

-- so many columns have joined, each at a turn of its own before this one
pub record HasTurns (size : ℕ) (tree : Tree) (turn : ℕ) : Type 0 where
  pub earlier : (column : ℕ) → column < size → turn_of_column tree column < size → turn_of_column tree column < turn
  pub count : count_below (is_in_tree tree.turns) size ≡ turn

-- all that holds before a turn
pub record IsRowSearch (worths : List (List ℕ)) (draft : Draft) (tree : Tree) (root turn : ℕ) : Type 0 where
  pub pairing : IsPairing (length worths) draft
  pub duals : HasDuals worths draft
  pub matched : IsMatched worths draft root (length worths)
  pub size : HasSize (length worths) tree
  pub stem : IsStem worths draft tree root (length worths)
  pub gaps : HasGaps worths draft tree root (length worths)
  pub turns : HasTurns (length worths) tree turn

-- the duals have moved by the gap of the next column, and it has joined
pub record IsWidened (size : ℕ) (old new : Draft) (tree wider : Tree) (root turn next : ℕ) : Type 0 where
  pub columns : new.columns ≡ old.columns
  pub rows : new.rows ≡ old.rows
  pub row_duals : new.row_duals ≡ list_below (λ row. if is_reached old.columns tree.turns root row then row_dual old row - gap_at tree next else row_dual old row) size
  pub column_duals : new.column_duals ≡ list_below (λ column. if is_in_tree tree.turns column then column_dual old column + gap_at tree next else column_dual old column) size
  pub gaps : wider.gaps ≡ list_below (λ column. if is_in_tree tree.turns column then gap_at tree column else gap_at tree column - gap_at tree next) size
  pub from : wider.from ≡ tree.from
  pub turns : wider.turns ≡ slice_set tree.turns next turn

-- a newly reached row is among those from which the gaps are the least
pub record IsTreeRelaxed (worths : List (List ℕ)) (draft : Draft) (tree relaxed : Tree) (tip : ℕ) : Type 0 where
  pub size : HasSize (length worths) relaxed
  pub turns : relaxed.turns ≡ tree.turns
  pub kept : (column : ℕ) → column < length worths → turn_of_column tree column < length worths → from_at relaxed column ≡ from_at tree column
  pub less : (column : ℕ) → column < length worths → gap_at relaxed column ≤ gap_at tree column
  pub reach : (column : ℕ) → column < length worths → length worths ≤ turn_of_column tree column → gap_at relaxed column + worth_at worths tip column ≤ row_dual draft tip + column_dual draft column
  pub either : (column : ℕ) → column < length worths
      → ((gap_at relaxed column ≡ gap_at tree column) × (from_at relaxed column ≡ from_at tree column))
      ⊎ ((gap_at relaxed column + worth_at worths tip column ≡ row_dual draft tip + column_dual draft column) × (from_at relaxed column ≡ tip))

-- the tree where it has reached a row that isn't matched
pub record IsTreeGrown (worths : List (List ℕ)) (draft : Draft) (tree : Tree) (root free : ℕ) : Type 0 where
  pub pairing : IsPairing (length worths) draft
  pub duals : HasDuals worths draft
  pub matched : IsMatched worths draft root (length worths)
  pub size : HasSize (length worths) tree
  pub stem : IsStem worths draft tree root free
  pub free_within : free < length worths
  pub free_after : root ≤ free
  pub joined : turn_of_column tree (column_of draft free) < length worths

-- from the column of a row the tree leads back to the root, each time to a column that joined before
pub record IsWay (size : ℕ) (draft : Draft) (tree : Tree) (root free : ℕ) : Type 0 where
  pub within : (column : ℕ) → column < size → from_at tree column < size
  pub joined : turn_of_column tree (column_of draft free) < size
  pub before : (column : ℕ) → column < size → turn_of_column tree column ≤ turn_of_column tree (column_of draft free)
      → (from_at tree column ≡ root) ⊎ (turn_of_column tree (column_of draft (from_at tree column)) < turn_of_column tree column)

-- a row stands at a column that was reached from it
pub record IsOnTree (size : ℕ) (draft : Draft) (tree : Tree) (row : ℕ) : Type 0 where
  pub joined : turn_of_column tree (column_of draft row) < size
  pub from : from_at tree (column_of draft row) ≡ row

-- but for one row, each has kept its column or stands at one that was reached from it
pub record IsTurned (size : ℕ) (old new : Draft) (tree : Tree) (free : ℕ) : Type 0 where
  pub each : (row : ℕ) → row < size → row ≢ free → (column_of new row ≡ column_of old row) ⊎ IsOnTree size new tree row
