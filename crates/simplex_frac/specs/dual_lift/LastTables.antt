-- What is known of the last table of a run, and what its dual values say of the lines.
use Rattle.std.specs.Prelude.{◌≡◌, ℕ, ◌<◌, List, length, ℤ, pos, neg_ℤ, ◌*ℤ◌, ◌≤ℤ◌}
use Rattle.frac_row.specs.declared.row.FracRow.{FracRow}
use Rattle.row_store.specs.Problem.{IsProblem}
pub use Rattle.row_store.specs.DualValues.{AreDualValues, WeighMore}
use Rattle.row_store.specs.Table.{cost_row, right_side}
use Rattle.row_store.specs.declared.problem.Rows.{Rows}
use Rattle.simplex_frac.specs.ReachedTables.{HasUnitColumns, IsTableOf, ReadsOff, den_at, weighed}
use Rattle.simplex_frac.specs.LastTables.{IsBestTable, IsNoPointTable}
use Rattle.simplex_frac.specs.BasicPoints.{IsBasicPoint, MeetsAtCost}
use Rattle.simplex_frac.specs.dual_lift.Mixture.{IsMixture}
use Rattle.simplex_frac.specs.declared.dual_lift.reading.Reading.{Reading}
use Rattle.simplex_frac.specs.declared.dual_lift.reading.Reading.TheVariants.{BothRows, PhaseRow}

-- what is known of a table, with its basis, that steps reach from the lines: its shape, each row read off the identity
-- block, and unit columns
pub record IsReachedTable (rows : Rows) (table : List FracRow) (basis : List ℕ) : Type 0 where
  pub problem : IsProblem rows
  pub shape : IsTableOf rows table basis
  pub reads : ReadsOff rows table
  pub units : HasUnitColumns rows table basis

-- .. whose basic point meets the lines, at the cost that the cost row tells
pub record HasBasicPoint (rows : Rows) (table : List FracRow) (basis : List ℕ) : Type 0 where
  pub sides : (line : ℕ) → line < length rows.lines → pos 0 ≤ℤ right_side table line
  pub meets : (scale : ℕ) (x : ℕ → ℕ) → IsBasicPoint rows table basis scale x → MeetsAtCost rows table scale x

-- the signs of an end, by how its dual values are read
abbrev pub IsEndBy : Rows → List FracRow → List ℕ → Reading → Type 0
IsEndBy rows table basis (BothRows mixture) = IsBestTable rows table × IsMixture table mixture
IsEndBy rows table basis PhaseRow = IsNoPointTable rows table

-- whether costs count there: at a cheapest point they do, and not where there is no point
abbrev pub counts_costs : Reading → ℕ
counts_costs (BothRows mixture) = 1
counts_costs PhaseRow = 0

-- the right sides weigh what the cost row tells, each over its own scale
pub record WeighTheCost (rows : Rows) (table : List FracRow) (scale : ℤ) (value : ℕ → ℤ) : Type 0 where
  pub sides : weighed rows value rows.columns *ℤ den_at table (cost_row table) ≡ neg_ℤ (right_side table (cost_row table)) *ℤ scale
