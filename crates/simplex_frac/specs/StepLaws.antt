-- Laws of steps over any first table.
use Rattle.std.specs.Prelude.{ℕ, ℤ, ◌*ℤ◌, ◌-◌, ◌<◌, ◌≡◌, ◌↔◌, List, length}
use Rattle.frac_row.specs.declared.row.FracRow.{FracRow}
use Rattle.row_store.specs.Table.{row_at, height_of, columns_of, HasColumns, IsTable}
use Rattle.row_store.specs.Points.{surplus, MeetsLines}
use Rattle.simplex_frac.specs.Tableaux.{Tableau, IsReachedFrom}

-- a point meets the lines of a reached table exactly where it meets those of the first one
abbrev pub StepsKeepPoints : Type 0
StepsKeepPoints =
    (first : List FracRow) (columns : ℕ) (table : List FracRow) (basis : List ℕ) (point : ℕ → ℤ) (scale : ℤ) → IsTable first → HasColumns first columns → IsReachedFrom first columns table basis → MeetsLines table point scale ↔ MeetsLines first point scale

-- .. and there the surplus of each row over its denominator is that of the first table
abbrev pub StepsKeepSurplus : Type 0
StepsKeepSurplus =
    (first : List FracRow) (columns : ℕ) (table : List FracRow) (basis : List ℕ) (point : ℕ → ℤ) (scale : ℤ) (row : ℕ) → IsTable first → HasColumns first columns → IsReachedFrom first columns table basis → MeetsLines first point scale → row < length first → (surplus (row_at table row) (columns_of first - 1) point scale *ℤ (row_at first row).den) ≡ (surplus (row_at first row) (columns_of first - 1) point scale *ℤ (row_at table row).den)

-- a table of the first one's shape, with a basic column for each line
pub record KeepsShape (first : List FracRow) (columns : ℕ) (now : Tableau) : Type 0 where
  pub is_table : IsTable now.table
  pub shape : HasColumns now.table columns
  pub height : length now.table ≡ length first
  pub basis : length now.basis ≡ height_of first

abbrev pub StepsKeepShape : Type 0
StepsKeepShape =
    (first : List FracRow) (columns : ℕ) (table : List FracRow) (basis : List ℕ) → IsTable first → HasColumns first columns → IsReachedFrom first columns table basis → KeepsShape first columns (record { table = table; basis = basis })
