-- Ends of a linear program: dual values with a point, or multipliers that refuse all points.
use Rattle.std.specs.Prelude.{ℕ, ℤ, pos, ◌<◌, ◌≡◌, ◌*ℤ◌, List, length, slice_index_or}
use Rattle.frac_row.specs.Outgrown.{IsWithin}
use Rattle.row_store.specs.DualValues.{AreDualValues, WeighMore, weighed}
use Rattle.row_store.specs.Problem.{MeetsRows, point_cost}
use Rattle.row_store.specs.declared.problem.Rows.{Rows}
use Rattle.simplex_frac.specs.declared.end_check.hint.PointHint.{PointHint}
use Rattle.simplex_frac.specs.declared.end_check.hint.RefusalHint.{RefusalHint}

-- the value that a list has of a line, and the part that one has of a column
abbrev pub value_in : List ℤ → ℕ → ℤ
value_in list line = slice_index_or list line (pos 0)

abbrev pub part_in : List ℕ → ℕ → ℕ
part_in list column = slice_index_or list column 0

-- one number for each line, none of them outgrown
pub record AreByLine (rows : Rows) (list : List ℤ) : Type 0 where
  pub long : length list ≡ length rows.lines
  pub within : (line : ℕ) → IsWithin (value_in list line)

-- dual values that weigh no real column above its cost, and a point of at least 0 that meets the lines; the point costs
-- what the right sides weigh, each over its own scale
pub record IsPricedEnd (rows : Rows) (hint : PointHint) : Type 0 where
  pub duals : AreByLine rows hint.duals
  pub values : AreDualValues rows 1 hint.dual_scale (value_in hint.duals)
  pub long : length hint.point ≡ rows.columns
  pub some : 0 < hint.scale
  pub meets : MeetsRows rows hint.scale (part_in hint.point)
  pub same : point_cost rows (part_in hint.point) *ℤ hint.dual_scale ≡ weighed rows (value_in hint.duals) rows.columns *ℤ pos hint.scale

-- multipliers that weigh no real column above 0, and the right sides above 0
pub record IsRefusedEnd (rows : Rows) (hint : RefusalHint) : Type 0 where
  pub multipliers : AreByLine rows hint.multipliers
  pub values : AreDualValues rows 0 (pos 1) (value_in hint.multipliers)
  pub more : WeighMore rows (value_in hint.multipliers)
