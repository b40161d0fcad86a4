-- A matching that is being made: all columns are given out from the start, and the first rows stand well.
use Rattle.std.specs.Prelude.{ℕ, ◌+◌, ◌<◌, ◌≤◌, ◌≡◌, ◌≢◌, List, length, slice_index, slice_set}
use Rattle.plan_rotations.specs.best_matching.Worths.{worth_at}
use Rattle.plan_rotations.specs.declared.best_matching.matching.TheConstants.{MAX_WORTH}
use Rattle.plan_rotations.specs.declared.best_matching.draft.Draft.{Draft}

abbrev pub column_of : Draft → ℕ → ℕ
column_of draft row = slice_index draft.columns row

abbrev pub row_of : Draft → ℕ → ℕ
row_of draft column = slice_index draft.rows column

abbrev pub row_dual : Draft → ℕ → ℕ
row_dual draft row = slice_index draft.row_duals row

abbrev pub column_dual : Draft → ℕ → ℕ
column_dual draft column = slice_index draft.column_duals column

-- a number for each row and column, and the columns of the rows and the rows of the columns turn one another around
pub record IsPairing (size : ℕ) (draft : Draft) : Type 0 where
  pub row_duals : length draft.row_duals ≡ size
  pub column_duals : length draft.column_duals ≡ size
  pub columns : length draft.columns ≡ size
  pub rows : length draft.rows ≡ size
  pub column_within : (row : ℕ) → row < size → column_of draft row < size
  pub row_within : (column : ℕ) → column < size → row_of draft column < size
  pub row_again : (row : ℕ) → row < size → row_of draft (column_of draft row) ≡ row
  pub column_again : (column : ℕ) → column < size → column_of draft (row_of draft column) ≡ column

-- dual numbers, none above the greatest worth
pub record HasDuals (worths : List (List ℕ)) (draft : Draft) : Type 0 where
  pub reach : (row column : ℕ) → row < length worths → column < length worths → worth_at worths row column ≤ row_dual draft row + column_dual draft column
  pub small : (row : ℕ) → row < length worths → row_dual draft row ≤ MAX_WORTH
  pub column_small : (column : ℕ) → column < length worths → column_dual draft column ≤ MAX_WORTH

-- the rows before some row stand where their duals meet the worth, and the columns of the others have the dual 0; one
-- of the others may be left out
pub record IsMatched (worths : List (List ℕ)) (draft : Draft) (matched free : ℕ) : Type 0 where
  pub meet : (row : ℕ) → row < matched → row_dual draft row + column_dual draft (column_of draft row) ≡ worth_at worths row (column_of draft row)
  pub unused : (row : ℕ) → row < length worths → matched ≤ row → row ≢ free → column_dual draft (column_of draft row) ≡ 0

-- one draft is another in which two rows have exchanged their columns
pub record AreColumnsExchanged (old new : Draft) (one other : ℕ) : Type 0 where
  pub columns : new.columns ≡ slice_set (slice_set old.columns one (column_of old other)) other (column_of old one)
  pub rows : new.rows ≡ slice_set (slice_set old.rows (column_of old other) one) (column_of old one) other
  pub row_duals : new.row_duals ≡ old.row_duals
  pub column_duals : new.column_duals ≡ old.column_duals
