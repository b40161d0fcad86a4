-- What the tables of the run tell of the lines and costs that it began with: what all tables tell that steps reach,
-- and that right sides stay at least 0.
use Rattle.std.specs.Prelude.{ℕ, pos, ◌<◌, ◌≤ℤ◌, List, length}
use Rattle.frac_row.specs.declared.row.FracRow.{FracRow}
use Rattle.row_store.specs.declared.problem.Rows.{Rows}
use Rattle.row_store.specs.Table.{right_side}
use Rattle.row_store.specs.Problem.{entry, IsProblem, first_table}
use Rattle.simplex_frac.specs.ReachedTables.{IsReachedBySteps}
use Rattle.simplex_frac.specs.Outcomes.{Reaches}
pub use Rattle.simplex_frac.specs.ReachedTables.{den_at, amount_at, identity_at, weighed, IsTableOf, ReadsOff, HasUnitColumns}

-- a problem, and the table and basis that its run has after so many pivots
pub record IsReached (rows : Rows) (made : ℕ) (table : List FracRow) (basis : List ℕ) : Type 0 where
  pub problem : IsProblem rows
  pub reaches : Reaches (first_table rows) rows.columns made table basis

-- steps reach the tables of the run
abbrev pub RunIsReached : Type 0
RunIsReached = (rows : Rows) (made : ℕ) (table : List FracRow) (basis : List ℕ) → IsReached rows made table basis → IsReachedBySteps rows table basis

-- so they have the first one's shape, and a basic column for each line
abbrev pub RunHasTables : Type 0
RunHasTables = (rows : Rows) (made : ℕ) (table : List FracRow) (basis : List ℕ) → IsReached rows made table basis → IsTableOf rows table basis

-- each row can be read off the identity block
abbrev pub RunReadsOff : Type 0
RunReadsOff = (rows : Rows) (made : ℕ) (table : List FracRow) (basis : List ℕ) → IsReached rows made table basis → ReadsOff rows table

-- each basic column is a unit column
abbrev pub RunHasUnitColumns : Type 0
RunHasUnitColumns = (rows : Rows) (made : ℕ) (table : List FracRow) (basis : List ℕ) → IsReached rows made table basis → HasUnitColumns rows table basis

-- no right side of a line is below 0
pub record AreRightSidesAtLeast0 (rows : Rows) : Type 0 where
  pub each : (line : ℕ) → line < length rows.lines → pos 0 ≤ℤ entry rows line rows.columns

-- .. nor of any table of the run
abbrev pub RunKeepsRightSides : Type 0
RunKeepsRightSides =
    (rows : Rows) (made : ℕ) (table : List FracRow) (basis : List ℕ) (line : ℕ) → IsReached rows made table basis → AreRightSidesAtLeast0 rows → line < length rows.lines → pos 0 ≤ℤ right_side table line
