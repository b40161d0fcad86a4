-- The sizes of all numbers of the lines.
use Rattle.std.proofs.Common.{ℕ, ◌+◌, ◌-◌, ◌^◌, ◌≤◌, length, unsigned_abs, arith}
use Rattle.sums.specs.Below.{sum_below}
use Rattle.sums.proofs.Sums as sums
use Rattle.sums.proofs.SumBounds.{term_le}
use Rattle.row_store.specs.declared.problem.Rows.{Rows}
use Rattle.row_store.specs.Problem.{entry, IsColumnWithin}

-- those of one line
abbrev pub line_sizes : Rows → ℕ → ℕ
line_sizes rows line = sum_below (λ column. unsigned_abs (entry rows line column)) (rows.columns + 1)

-- a column has no more than all lines
pub column_within : (rows : Rows) (column : ℕ) → column ≤ rows.columns → sum_below (line_sizes rows) (length rows.lines) ≤ 2 ^ 127 - 1 → IsColumnWithin rows column
column_within rows column le within =
    let less : sum_below (λ line. unsigned_abs (entry rows line column)) (length rows.lines) ≤ sum_below (line_sizes rows) (length rows.lines) =
    sums.sum_below-le (λ line. unsigned_abs (entry rows line column)) (line_sizes rows) (length rows.lines) (record { each = λ line lt. term_le (λ k. unsigned_abs (entry rows line k)) column (rows.columns + 1) (omega arith) }) in
    omega arith
