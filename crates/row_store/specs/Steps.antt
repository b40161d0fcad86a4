-- Steps: pivots on a number of either sign.
use Rattle.std.specs.Prelude.{ℕ, neg_ℤ, map, List, slice_set, Option, if◌then◌else◌}
use Rattle.frac_row.specs.declared.row.FracRow.{FracRow}
use Rattle.row_store.specs.declared.error.Place.{Place}
use Rattle.row_store.specs.Table.{row_at, number_at}
use Rattle.row_store.specs.Choice.{is_negative}
use Rattle.row_store.specs.Pivot.{pivoted, pivot_growth}

-- all numbers of a row with the other sign, over the same denominator
unfoldable pub turned_row : FracRow → FracRow
turned_row row = record { numbers = map neg_ℤ row.numbers; den = row.den }

-- .. in one row of a table
unfoldable pub turned : List FracRow → ℕ → List FracRow
turned table row = slice_set table row (turned_row (row_at table row))

-- the row turned where its number in the column is below 0
unfoldable pub made_positive : List FracRow → ℕ → ℕ → List FracRow
made_positive table row column = if is_negative (number_at table row column) then turned table row else table

-- the table after a step
unfoldable pub stepped : List FracRow → ℕ → ℕ → List FracRow
stepped table row column = pivoted (made_positive table row column) row column

-- the place of the first outgrown product or difference of a step
unfoldable pub step_growth : List FracRow → ℕ → ℕ → Option Place
step_growth table row column = pivot_growth (made_positive table row column) row column
