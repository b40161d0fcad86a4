-- Tables of the simplex method: rows of whole numbers over positive denominators. The lines come first,
-- then the phase row, then the cost row; the real columns come first, then the identity block (one
-- column for each line), then the right side.
use Rattle.std.specs.Prelude.{ℕ, ℤ, pos, ◌+◌, ◌-◌, ◌^◌, ◌<◌, ◌≤◌, ◌≡◌, List, [], length, slice_index_or}
use Rattle.frac_row.specs.declared.row.FracRow.{FracRow}
use Rattle.frac_row.specs.Row.{number_of, width_of, IsRow}

-- stands past the last row
abbrev pub no_row : FracRow
no_row = record { numbers = []; den = pos 1 }

abbrev pub row_at : List FracRow → ℕ → FracRow
row_at table row = slice_index_or table row no_row

abbrev pub number_at : List FracRow → ℕ → ℕ → ℤ
number_at table row column = number_of (row_at table row) column

-- how many lines there are
abbrev pub height_of : List FracRow → ℕ
height_of table = length table - 2

abbrev pub phase_row : List FracRow → ℕ
phase_row table = height_of table

abbrev pub cost_row : List FracRow → ℕ
cost_row table = height_of table + 1

-- how many columns there are, the right side among them
abbrev pub columns_of : List FracRow → ℕ
columns_of table = width_of (row_at table 0)

-- so many real columns, then the identity block, then the right side
abbrev pub HasColumns : List FracRow → ℕ → Type 0
HasColumns table columns = columns_of table ≡ columns + height_of table + 1

abbrev pub right_side : List FracRow → ℕ → ℤ
right_side table row = number_at table row (columns_of table - 1)

-- rows of one width above positive denominators, with no outgrown number, and few enough to be
-- numbered: the denominators are numbered as the column after the last
pub record IsTable (table : List FracRow) : Type 0 where
  pub tall : 2 ≤ length table
  pub few_rows : length table < 2 ^ 32
  pub few_columns : columns_of table < 2 ^ 32
  pub identity : height_of table < columns_of table
  pub same_width : (row : ℕ) → row < length table → width_of (row_at table row) ≡ columns_of table
  pub rows : (row : ℕ) → row < length table → IsRow (row_at table row)
