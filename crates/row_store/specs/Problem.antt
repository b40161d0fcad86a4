-- Lines and costs, the first table that they make, and the points of the lines.
use Rattle.std.specs.Prelude.{ℕ, ℤ, pos, ◌+◌, ◌-◌, ◌*ℤ◌, ◌^◌, ◌<◌, ◌≤◌, ◌≡◌, ◌==◌, nat_lt, List, [], length, slice_index_or, unsigned_abs, neg_ℤ, All, if◌then◌else◌}
use Rattle.sums.specs.Below.{sum_below, sum_below_ℤ}
use Rattle.sums.specs.Places.{list_below}
use Rattle.frac_row.specs.Outgrown.{IsWithin}
use Rattle.frac_row.specs.declared.row.FracRow.{FracRow}
use Rattle.row_store.specs.declared.problem.Rows.{Rows}

-- the number of a line in a real column, or in the column after them its right side
abbrev pub entry : Rows → ℕ → ℕ → ℤ
entry rows line column = slice_index_or (slice_index_or rows.lines line []) column (pos 0)

-- the sizes in a column of the lines sum to no outgrown number
abbrev pub IsColumnWithin : Rows → ℕ → Type 0
IsColumnWithin rows column = sum_below (λ line. unsigned_abs (entry rows line column)) (length rows.lines) ≤ 2 ^ 127 - 1

-- lines of real numbers and a right side, as many costs, and no outgrown number in the first table
pub record IsProblem (rows : Rows) : Type 0 where
  pub few : rows.columns + length rows.lines + 2 < 2 ^ 32
  pub widths : All (λ line. length line ≡ rows.columns + 1) rows.lines
  pub costs : length rows.costs ≡ rows.columns
  pub costs_within : All IsWithin rows.costs
  pub sums_within : (column : ℕ) → column ≤ rows.columns → IsColumnWithin rows column

-- the real numbers and the right side of a row: those of a line, in the phase row what the lines sum to
-- with the other sign, in the cost row the costs and 0
unfoldable pub first_amount : Rows → ℕ → ℕ → ℤ
first_amount rows row column =
    if nat_lt row (length rows.lines) then entry rows row column
    else if row == length rows.lines then neg_ℤ (sum_below_ℤ (λ line. entry rows line column) (length rows.lines))
    else slice_index_or rows.costs column (pos 0)

-- the real columns, the identity block, the right side
unfoldable pub first_number : Rows → ℕ → ℕ → ℤ
first_number rows row column =
    if nat_lt column rows.columns then first_amount rows row column
    else if nat_lt column (rows.columns + length rows.lines)
    then (if column - rows.columns == row then pos 1 else pos 0)
    else first_amount rows row rows.columns

abbrev pub first_row : Rows → ℕ → FracRow
first_row rows row = record {
  numbers = list_below (first_number rows row) (rows.columns + length rows.lines + 1);
  den = pos 1;
}

-- the lines, the phase row, the cost row
unfoldable pub first_table : Rows → List FracRow
first_table rows = list_below (first_row rows) (length rows.lines + 2)

-- a point of the lines, over a scale: numbers of at least 0, one for each column, by which each line comes to its
-- right side, so many parts each
pub record MeetsRows (rows : Rows) (scale : ℕ) (x : ℕ → ℕ) : Type 0 where
  pub each : (line : ℕ) → line < length rows.lines
      → sum_below_ℤ (λ c. entry rows line c *ℤ pos (x c)) rows.columns ≡ entry rows line rows.columns *ℤ pos scale

-- what a point costs, times its scale
abbrev pub point_cost : Rows → (ℕ → ℕ) → ℤ
point_cost rows x = sum_below_ℤ (λ c. slice_index_or rows.costs c (pos 0) *ℤ pos (x c)) rows.columns
