-- What is looked at, one after the other, where a hint is checked.
use Rattle.std.specs.Prelude.{ℕ, ℤ, pos, ◌≡◌, ◌<◌, ◌*ℤ◌, ◌<ℤ◌, ◌≤ℤ◌, List, length}
use Rattle.sums.specs.Below.{sum_below_ℤ}
use Rattle.row_store.specs.declared.problem.Rows.{Rows}
use Rattle.simplex_frac.specs.end_check.Ends.{AreByLine, part_in, value_in}
use Rattle.simplex_frac.specs.end_check.Sums.{MeetsLine, SumsWithin}
use Rattle.simplex_frac.specs.declared.end_check.hint.PointHint.{PointHint}

-- as many numbers as there are to be, over scales above 0
pub record HasShape (rows : Rows) (hint : PointHint) : Type 0 where
  pub some : 0 < hint.scale
  pub dual_scale : pos 0 <ℤ hint.dual_scale
  pub long : length hint.point ≡ rows.columns
  pub duals : AreByLine rows hint.duals

-- the point costs a weight, each over its own scale
pub record CostsTheWeight (costs : List ℤ) (hint : PointHint) (weight : ℤ) : Type 0 where
  pub within : SumsWithin (value_in costs) (λ column. pos (part_in hint.point column)) (length costs)
  pub same : sum_below_ℤ (λ column. value_in costs column *ℤ pos (part_in hint.point column)) (length costs) *ℤ hint.dual_scale ≡ weight *ℤ pos hint.scale

-- weights of columns, and behind them that of the right sides, show an end with the point
pub record ShowsEnd (rows : Rows) (hint : PointHint) (weights : List ℤ) : Type 0 where
  pub under : (column : ℕ) → column < length rows.costs → value_in weights column ≤ℤ (hint.dual_scale *ℤ value_in rows.costs column)
  pub meets : (line : ℕ) → line < length rows.lines → MeetsLine rows hint.point hint.scale line
  pub cost : CostsTheWeight rows.costs hint (value_in weights rows.columns)

-- .. or a refusal
pub record ShowsRefusal (columns : ℕ) (weights : List ℤ) : Type 0 where
  pub more : pos 0 <ℤ value_in weights columns
  pub none : (column : ℕ) → column < columns → value_in weights column ≤ℤ pos 0
