-- Points of a table: a whole number for each column but the right side, over one scale.
use Rattle.std.specs.Prelude.{ℕ, ℤ, pos, ◌-ℤ◌, ◌*ℤ◌, ◌-◌, ◌<◌, ◌≡◌, ◌<ℤ◌, ◌↔◌, List, length}
use Rattle.sums.specs.Below.{sum_below_ℤ}
use Rattle.frac_row.specs.declared.row.FracRow.{FracRow}
use Rattle.frac_row.specs.Row.{number_of}
use Rattle.row_store.specs.Table.{row_at, number_at, height_of, columns_of, IsTable}
use Rattle.row_store.specs.Pivot.{pivoted}

-- what the first columns of a row come to at a point, less the number after them times the scale
unfoldable pub surplus : FracRow → ℕ → (ℕ → ℤ) → ℤ → ℤ
surplus row columns point scale =
    sum_below_ℤ (λ column. number_of row column *ℤ point column) columns -ℤ (number_of row columns *ℤ scale)

-- each line comes to its right side
abbrev pub MeetsLines : List FracRow → (ℕ → ℤ) → ℤ → Type 0
MeetsLines table point scale =
    (line : ℕ) → line < height_of table → surplus (row_at table line) (columns_of table - 1) point scale ≡ pos 0

-- a pivot neither takes nor gives a point that meets the lines
abbrev pub KeepsPoints : Type 0
KeepsPoints =
    (table : List FracRow) (row column : ℕ) (point : ℕ → ℤ) (scale : ℤ) → IsTable table → row < height_of table → column < columns_of table → pos 0 <ℤ number_at table row column → MeetsLines (pivoted table row column) point scale ↔ MeetsLines table point scale

-- and where a point meets the lines, the surplus of each row over its denominator stays, in the phase
-- row and the cost row too
abbrev pub KeepsSurplus : Type 0
KeepsSurplus =
    (table : List FracRow) (row column other : ℕ) (point : ℕ → ℤ) (scale : ℤ) → IsTable table → row < height_of table → column < columns_of table → pos 0 <ℤ number_at table row column → MeetsLines table point scale → other < length table → (surplus (row_at (pivoted table row column) other) (columns_of table - 1) point scale *ℤ (row_at table other).den) ≡ (surplus (row_at table other) (columns_of table - 1) point scale *ℤ (row_at (pivoted table row column) other).den)
