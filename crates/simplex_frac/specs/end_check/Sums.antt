-- Sums of products of which no number on the way is outgrown.
use Rattle.std.specs.Prelude.{ℕ, ℤ, pos, neg_ℤ, ◌≡◌, ◌+◌, ◌<◌, ◌≤◌, ◌+ℤ◌, ◌*ℤ◌, nat_lt, List, length, if◌then◌else◌}
use Rattle.sums.specs.Below.{sum_below_ℤ}
use Rattle.sums.specs.Places.{list_below}
use Rattle.frac_row.specs.Outgrown.{IsWithin}
use Rattle.row_store.specs.Problem.{entry}
use Rattle.row_store.specs.declared.problem.Rows.{Rows}
use Rattle.simplex_frac.specs.end_check.Ends.{part_in, value_in}
use Rattle.simplex_frac.specs.declared.end_check.hint.PointHint.{PointHint}
use Rattle.simplex_frac.specs.declared.end_check.hint.RefusalHint.{RefusalHint}

-- a product is added to a sum, and neither it nor what they come to is outgrown
pub record AddsWithin (sum one other : ℤ) : Type 0 where
  pub product : IsWithin (one *ℤ other)
  pub total : IsWithin (sum +ℤ (one *ℤ other))

-- the products of f and g below a bound are summed, from the first on
pub record SumsWithin (f g : ℕ → ℤ) (count : ℕ) : Type 0 where
  pub each : (k : ℕ) → k < count → AddsWithin (sum_below_ℤ (λ j. f j *ℤ g j) k) (f k) (g k)

-- sums of columns with a multiple of a line, and that it is added so
unfoldable pub sums_with : List ℤ → ℤ → List ℤ → List ℤ
sums_with sums value line = list_below (λ column. value_in sums column +ℤ (value *ℤ value_in line column)) (length sums)

pub record AddWithin (sums : List ℤ) (value : ℤ) (line : List ℤ) : Type 0 where
  pub each : (column : ℕ) → column < length sums → AddsWithin (value_in sums column) value (value_in line column)

-- what columns and right sides weigh by the first lines, and that this is summed so, line by line
unfoldable pub weights_of : Rows → (ℕ → ℤ) → ℕ → List ℤ
weights_of rows value lines = list_below (λ column. sum_below_ℤ (λ line. value line *ℤ entry rows line column) lines) (rows.columns + 1)

pub record WeighsWithin (rows : Rows) (value : ℕ → ℤ) : Type 0 where
  pub each : (column : ℕ) → column ≤ rows.columns → SumsWithin value (λ line. entry rows line column) (length rows.lines)

-- by what a column is multiplied at a point: its part, and the right side by the scale with the other sign
unfoldable pub share_in : List ℕ → ℕ → ℕ → ℤ
share_in point scale column = if nat_lt column (length point) then pos (part_in point column) else neg_ℤ (pos scale)

-- a line at a point less its right side is nothing, summed so
pub record MeetsLine (rows : Rows) (point : List ℕ) (scale line : ℕ) : Type 0 where
  pub within : SumsWithin (entry rows line) (share_in point scale) (rows.columns + 1)
  pub nothing : sum_below_ℤ (λ column. entry rows line column *ℤ share_in point scale column) (rows.columns + 1) ≡ pos 0

-- all that a check sums: the weights, each line at the point less its right side, and the cost
pub record IsCheckable (rows : Rows) (hint : PointHint) : Type 0 where
  pub weights : WeighsWithin rows (value_in hint.duals)
  pub lines : (line : ℕ) → line < length rows.lines → SumsWithin (entry rows line) (share_in hint.point hint.scale) (rows.columns + 1)
  pub cost : SumsWithin (value_in rows.costs) (λ column. pos (part_in hint.point column)) rows.columns

pub record IsRefusalCheckable (rows : Rows) (hint : RefusalHint) : Type 0 where
  pub weights : WeighsWithin rows (value_in hint.multipliers)
