-- Each column of the tables has a number, and lines weigh it by that number.
use Rattle.std.proofs.Common.{◌≡◌, ℕ, ◌+◌, ◌<◌, length, get_or, ℤ, pos, ◌*ℤ◌, ◌≤ℤ◌, sym, ◌∙◌, ap, subst, arith}
use Rattle.std.proofs.lemmas.Int.{ints}
use Rattle.std.proofs.lemmas.List.{get_or-map}
use Rattle.sums.specs.Below.{sum_below_ℤ}
use Rattle.sums.proofs.WholeSums.{sum_below_ℤ-same}
use Rattle.fleet_model.specs.declared.tables.Tables.{Tables}
use Rattle.fleet_model.specs.Kept.{Domains}
use Rattle.fleet_model.specs.Schedule.{legs_in}
use Rattle.row_store.specs.Problem.{entry}
use Rattle.row_store.specs.declared.problem.Rows.{Rows}
use Rattle.simplex_frac.specs.Duality.{AreRightSidesAtLeast0}
use Rattle.simplex_frac.specs.ReachedTables.{weighed}
use Rattle.lp_rows.specs.declared.kinds.Column.TheVariants.{Slack}
use Rattle.lp_rows.specs.declared.kinds.Line.{Line}
use Rattle.lp_rows.specs.declared.kinds.Line.TheVariants.{Balance, Count, Cover, Parking}
use Rattle.lp_rows.specs.Entries.{column_cost, entry_of, right_side_of}
use Rattle.lp_rows.specs.Layout.{Starts, line_at, program_columns}
use Rattle.lp_rows.specs.Points.{AreCounted, column_at, priced_count}
use Rattle.lp_rows.specs.Program.{AreRows}
use Rattle.lp_rows.proofs.LineNumbers.{line_count, number_at_column, right_side_at}
use Rattle.price_lift.proofs.DownColumns.{down}

-- ---- columns by their numbers
module _ (t : Tables) (keeps : Domains) (starts : Starts) (rows : Rows) (are : AreRows t keeps starts rows) (counted : AreCounted t keeps starts rows) (y : ℕ → ℤ) where
  lines_long : length rows.lines ≡ legs_in t + priced_count t starts
  lines_long = omega (arith, counted.lines)

  pub weighed_column : (c : ℕ) → c < length (program_columns t keeps starts) → weighed rows y c ≡ down t starts y (λ line. entry_of t starts line (column_at (program_columns t keeps starts) c))
  weighed_column c within =
      sum_below_ℤ-same (λ i. y i *ℤ entry rows i c) (λ i. y i *ℤ entry_of t starts (line_at t starts i) (column_at (program_columns t keeps starts) c)) (length rows.lines)
      (λ i below. ap (λ e. y i *ℤ e) (number_at_column t keeps starts rows are i c (omega (arith, below, line_count t keeps starts rows are)) within))
      ∙ ap (sum_below_ℤ (λ i. y i *ℤ entry_of t starts (line_at t starts i) (column_at (program_columns t keeps starts) c))) lines_long

  pub weighed_sides : weighed rows y rows.columns ≡ down t starts y (λ line. right_side_of t line)
  weighed_sides =
      sum_below_ℤ-same (λ i. y i *ℤ entry rows i rows.columns) (λ i. y i *ℤ right_side_of t (line_at t starts i)) (length rows.lines)
      (λ i below. ap (λ e. y i *ℤ e) (right_side_at t keeps starts rows are i (omega (arith, below, line_count t keeps starts rows are))))
      ∙ ap (sum_below_ℤ (λ i. y i *ℤ right_side_of t (line_at t starts i))) lines_long

  pub cost_of_column : (c : ℕ) → c < length (program_columns t keeps starts) → get_or rows.costs c (pos 0) ≡ column_cost t (column_at (program_columns t keeps starts) c)
  cost_of_column c within = ap (λ cs. get_or cs c (pos 0)) are.costs ∙ get_or-map (column_cost t) (program_columns t keeps starts) c (Slack 0) (pos 0) within

-- no line of a subproblem has a right side below 0
side_at_least : (t : Tables) (line : Line) → pos 0 ≤ℤ right_side_of t line
side_at_least t (Cover l) = omega (arith, ints)
side_at_least t (Balance n) = omega (arith, ints)
side_at_least t (Count f) = omega (arith, ints)
side_at_least t (Parking p) = omega (arith, ints)

pub sides_at_least : (t : Tables) (keeps : Domains) (starts : Starts) (rows : Rows) → AreRows t keeps starts rows → AreRightSidesAtLeast0 rows
sides_at_least t keeps starts rows are = record {
  each = λ i below. subst (λ z. pos 0 ≤ℤ z) (sym (right_side_at t keeps starts rows are i (omega (arith, below, line_count t keeps starts rows are)))) (side_at_least t (line_at t starts i));
}
