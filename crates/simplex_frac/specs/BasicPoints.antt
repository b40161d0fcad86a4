-- The basic point of a reached table.
use Rattle.std.specs.Prelude.{ℕ, pos, neg_ℤ, ◌*ℤ◌, ◌<◌, ◌≤◌, ◌≡◌, ◌≢◌, List, length, slice_index}
use Rattle.frac_row.specs.declared.row.FracRow.{FracRow}
use Rattle.row_store.specs.declared.problem.Rows.{Rows}
use Rattle.row_store.specs.Table.{cost_row, right_side}
use Rattle.row_store.specs.Problem.{MeetsRows, point_cost}
use Rattle.simplex_frac.specs.ReachedTables.{den_at, IsReachedBySteps}

-- a point over a scale that has in each basic real column the right side of its line over the denominator, and 0 in
-- all other real columns
pub record IsBasicPoint (rows : Rows) (table : List FracRow) (basis : List ℕ) (scale : ℕ) (x : ℕ → ℕ) : Type 0 where
  pub basic : (line : ℕ) → line < length rows.lines → slice_index basis line < rows.columns
      → pos (x (slice_index basis line)) *ℤ den_at table line ≡ right_side table line *ℤ pos scale
  pub others : (column : ℕ) → column < rows.columns → ((line : ℕ) → line < length rows.lines → slice_index basis line ≢ column) → x column ≡ 0

-- it meets the lines, and costs what the right side of the cost row says with the other sign
pub record MeetsAtCost (rows : Rows) (table : List FracRow) (scale : ℕ) (x : ℕ → ℕ) : Type 0 where
  pub meets : MeetsRows rows scale x
  pub cost : point_cost rows x *ℤ den_at table (cost_row table) ≡ neg_ℤ (right_side table (cost_row table)) *ℤ pos scale

-- each basic column of the identity block has right side 0
pub record AreArtificialsAt0 (rows : Rows) (table : List FracRow) (basis : List ℕ) : Type 0 where
  pub each : (line : ℕ) → line < length rows.lines → rows.columns ≤ slice_index basis line → right_side table line ≡ pos 0

-- there the basic point meets the lines at the cost that the cost row tells
abbrev pub StepsMeetAtCost : Type 0
StepsMeetAtCost =
    (rows : Rows) (table : List FracRow) (basis : List ℕ) (scale : ℕ) (x : ℕ → ℕ) → IsReachedBySteps rows table basis → AreArtificialsAt0 rows table basis → IsBasicPoint rows table basis scale x → MeetsAtCost rows table scale x
