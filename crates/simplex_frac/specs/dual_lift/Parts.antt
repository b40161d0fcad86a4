-- The parts of a scale that columns have at a basic point.
use Rattle.std.specs.Prelude.{◌≡◌, ℕ, zero, suc, ◌*◌, ◌/◌, ◌<◌, ◌==◌, if◌then◌else◌, List, length, slice_index, slice_index_or, ℤ, pos, ◌≤ℤ◌, unsigned_abs}
use Rattle.sums.specs.Divisors.{gcd}
use Rattle.frac_row.specs.Outgrown.{IsWithin}
use Rattle.frac_row.specs.declared.row.FracRow.{FracRow}
use Rattle.row_store.specs.Table.{height_of, right_side, row_at}
use Rattle.simplex_frac.specs.dual_lift.Scales.{lowest_den}

-- a line's right side in parts of a scale that makes it whole
unfoldable pub part_of : List FracRow → ℕ → ℕ → ℕ
part_of table scale line =
    (unsigned_abs (right_side table line) / gcd (unsigned_abs (right_side table line)) (unsigned_abs (row_at table line).den)) * (scale / lowest_den table line)

-- a column's parts by the first lines: those of the line whose basic column it is, and 0 where there is none
abbrev pub part_below : List FracRow → List ℕ → ℕ → ℕ → ℕ → ℕ
part_below table basis scale zero column = 0
part_below table basis scale (suc line) column =
    if slice_index basis line == column then part_of table scale line else part_below table basis scale line column

-- right sides of at least 0, and parts that are not outgrown, of those lines whose basic column is among the first
pub record HaveParts (table : List FracRow) (basis : List ℕ) (columns scale : ℕ) : Type 0 where
  pub some : (line : ℕ) → line < height_of table → pos 0 ≤ℤ right_side table line
  pub few : (line : ℕ) → line < height_of table → slice_index basis line < columns → IsWithin (pos (part_of table scale line))

-- a list has each column's parts
pub record AreParts (part : ℕ → ℕ) (columns : ℕ) (parts : List ℤ) : Type 0 where
  pub all : length parts ≡ columns
  pub each : (column : ℕ) → column < columns → slice_index_or parts column (pos 0) ≡ pos (part column)
