-- What the tables that steps reach tell of the lines and costs of the first one.
use Rattle.std.specs.Prelude.{ℕ, ℤ, pos, ◌+◌, ◌+ℤ◌, ◌-ℤ◌, ◌*ℤ◌, ◌<◌, ◌≤◌, ◌≡◌, ◌≢◌, ◌<ℤ◌, nat_lt, List, length, slice_index, slice_index_or, if◌then◌else◌}
use Rattle.frac_row.specs.declared.row.FracRow.{FracRow}
use Rattle.row_store.specs.declared.problem.Rows.{Rows}
use Rattle.row_store.specs.Table.{row_at, number_at, phase_row, cost_row, columns_of, right_side, IsTable}
use Rattle.row_store.specs.Problem.{IsProblem, first_table}
pub use Rattle.row_store.specs.DualValues.{weighed}
use Rattle.simplex_frac.specs.Tableaux.{IsReachedFrom}

-- the denominator of a row
abbrev pub den_at : List FracRow → ℕ → ℤ
den_at table row = (row_at table row).den

-- the number of a row in a real column, or in the column after them its right side
abbrev pub amount_at : List FracRow → ℕ → ℕ → ℕ → ℤ
amount_at table columns row column =
    if nat_lt column columns then number_at table row column else right_side table row

-- the number of a row in the identity column of a line
abbrev pub identity_at : List FracRow → ℕ → ℕ → ℕ → ℤ
identity_at table columns row line = number_at table row (columns + line)

-- a problem, and a table with its basis that steps reach from its first one
pub record IsReachedBySteps (rows : Rows) (table : List FracRow) (basis : List ℕ) : Type 0 where
  pub problem : IsProblem rows
  pub reached : IsReachedFrom (first_table rows) rows.columns table basis

-- the table has the shape of the first one, and a basic column for each line
pub record IsTableOf (rows : Rows) (table : List FracRow) (basis : List ℕ) : Type 0 where
  pub is_table : IsTable table
  pub rows_in : length table ≡ length rows.lines + 2
  pub columns_in : columns_of table ≡ rows.columns + length rows.lines + 1
  pub dens : (row : ℕ) → row < length rows.lines + 2 → pos 0 <ℤ den_at table row
  pub basis_in : length basis ≡ length rows.lines

-- steps reach such tables
abbrev pub StepsHaveTables : Type 0
StepsHaveTables = (rows : Rows) (table : List FracRow) (basis : List ℕ) → IsReachedBySteps rows table basis → IsTableOf rows table basis

-- each row read off the identity block: the lines, each times the row's number there; in the phase row less its
-- denominator, and in the cost row with the costs beside them
pub record ReadsOff (rows : Rows) (table : List FracRow) : Type 0 where
  pub lines : (row column : ℕ) → row < length rows.lines → column ≤ rows.columns
      → amount_at table rows.columns row column ≡ weighed rows (identity_at table rows.columns row) column
  pub phase : (column : ℕ) → column ≤ rows.columns
      → amount_at table rows.columns (phase_row table) column ≡ weighed rows (λ line. identity_at table rows.columns (phase_row table) line -ℤ den_at table (phase_row table)) column
  pub cost : (column : ℕ) → column ≤ rows.columns
      → amount_at table rows.columns (cost_row table) column ≡ weighed rows (identity_at table rows.columns (cost_row table)) column +ℤ (den_at table (cost_row table) *ℤ slice_index_or rows.costs column (pos 0))

-- .. for every table that steps reach
abbrev pub StepsReadOff : Type 0
StepsReadOff = (rows : Rows) (table : List FracRow) (basis : List ℕ) → IsReachedBySteps rows table basis → ReadsOff rows table

-- each basic column has its own row's denominator there, and 0 in all other rows
pub record HasUnitColumns (rows : Rows) (table : List FracRow) (basis : List ℕ) : Type 0 where
  pub within : (line : ℕ) → line < length rows.lines → slice_index basis line < rows.columns + length rows.lines
  pub own : (line : ℕ) → line < length rows.lines → number_at table line (slice_index basis line) ≡ den_at table line
  pub others : (line row : ℕ) → line < length rows.lines → row < length rows.lines + 2 → row ≢ line → number_at table row (slice_index basis line) ≡ pos 0

-- .. in every table that steps reach
abbrev pub StepsHaveUnitColumns : Type 0
StepsHaveUnitColumns = (rows : Rows) (table : List FracRow) (basis : List ℕ) → IsReachedBySteps rows table basis → HasUnitColumns rows table basis
