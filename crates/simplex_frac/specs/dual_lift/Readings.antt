-- The dual values of lines, by how they are read off a last table.
use Rattle.std.specs.Prelude.{ℕ, ◌+◌, ◌-◌, ⊤, List, ℤ, Option, None}
use Rattle.sums.specs.Places.{first_below, list_below, or_else}
use Rattle.frac_row.specs.declared.row.FracRow.{FracRow}
use Rattle.row_store.specs.Table.{height_of}
use Rattle.simplex_frac.specs.dual_lift.Duals.{best_scale, best_value, phase_den, phase_value}
use Rattle.simplex_frac.specs.dual_lift.Mixture.{IsMixture}
use Rattle.simplex_frac.specs.dual_lift.TooLarge.{best_value_excess, refusal_value_excess, scale_excess}
use Rattle.simplex_frac.specs.declared.dual_lift.error.Excess.{Excess}
use Rattle.simplex_frac.specs.declared.dual_lift.reading.Reading.{Reading}
use Rattle.simplex_frac.specs.declared.dual_lift.reading.Reading.TheVariants.{BothRows, PhaseRow}

-- the table can be read so
abbrev pub IsReadingOf : List FracRow → Reading → Type 0
IsReadingOf table (BothRows mixture) = IsMixture table mixture
IsReadingOf table PhaseRow = ⊤

-- the dual value of a line, and the scale of all of them
abbrev pub value_by : List FracRow → Reading → ℕ → ℤ
value_by table (BothRows mixture) line = best_value table line
value_by table PhaseRow line = phase_value table line

abbrev pub scale_by : List FracRow → Reading → ℤ
scale_by table (BothRows mixture) = best_scale table
scale_by table PhaseRow = phase_den table

-- what is too large on the way to them; where one row is read, nothing but its differences can be
abbrev pub value_excess_by : List FracRow → Reading → ℕ → Option Excess
value_excess_by table (BothRows mixture) line = best_value_excess table line
value_excess_by table PhaseRow line = refusal_value_excess table line

abbrev pub scale_excess_by : List FracRow → Reading → Option Excess
scale_excess_by table (BothRows mixture) = scale_excess table
scale_excess_by table PhaseRow = None

-- the dual values of the lines from one on, over their scale
unfoldable pub duals_by : List FracRow → Reading → ℕ → FracRow
duals_by table reading first = record {
  numbers = list_below (λ k. value_by table reading (first + k)) (height_of table - first);
  den = scale_by table reading;
}

-- .. and what is first too large on the way to them
unfoldable pub duals_excess : List FracRow → Reading → ℕ → Option Excess
duals_excess table reading first =
    or_else (scale_excess_by table reading) (first_below (λ k. value_excess_by table reading (first + k)) (height_of table - first))
