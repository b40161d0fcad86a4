-- Dual values of lines, and what they weigh in columns and over the right sides.
use Rattle.std.specs.Prelude.{ℕ, ℤ, pos, ◌*ℤ◌, ◌<◌, ◌<ℤ◌, ◌≤ℤ◌, length, slice_index_or}
use Rattle.sums.specs.Below.{sum_below_ℤ}
use Rattle.row_store.specs.declared.problem.Rows.{Rows}
use Rattle.row_store.specs.Problem.{entry}

-- what the lines come to in a column, each times its weight
abbrev pub weighed : Rows → (ℕ → ℤ) → ℕ → ℤ
weighed rows weight column = sum_below_ℤ (λ line. weight line *ℤ entry rows line column) (length rows.lines)

-- dual values over a scale: with them no real column weighs more than it costs, and more than 0 where costs don't count
pub record AreDualValues (rows : Rows) (counted : ℕ) (scale : ℤ) (value : ℕ → ℤ) : Type 0 where
  pub some : pos 0 <ℤ scale
  pub under : (column : ℕ) → column < rows.columns → weighed rows value column ≤ℤ ((pos counted *ℤ scale) *ℤ slice_index_or rows.costs column (pos 0))

-- .. the right sides weigh more than 0, where no column does: so no point meets the lines
pub record WeighMore (rows : Rows) (value : ℕ → ℤ) : Type 0 where
  pub sides : pos 0 <ℤ weighed rows value rows.columns
