-- The pivot of a table, and the first place where it is outgrown.
use Rattle.std.specs.Prelude.{ℕ, ◌==◌, List, length, unsigned_abs, Option, None, option_map, if◌then◌else◌}
use Rattle.sums.specs.Places.{list_below, first_below}
use Rattle.frac_row.specs.declared.row.FracRow.{FracRow}
use Rattle.frac_row.specs.declared.growth.Growth.{Growth}
use Rattle.frac_row.specs.Row.{number_of, reduced}
use Rattle.frac_row.specs.Combined.{combined_row, growth_of}
use Rattle.row_store.specs.declared.error.Place.{Place}
use Rattle.row_store.specs.Table.{row_at}

-- the pivot row over its number in the column
unfoldable pub scaled_row : FracRow → ℕ → FracRow
scaled_row row column = reduced (record { numbers = row.numbers; den = number_of row column })

-- another row without its number in the column; one without such a number stays
unfoldable pub cleared_row : FracRow → FracRow → ℕ → FracRow
cleared_row row pivot_row column =
    if unsigned_abs (number_of row column) == 0 then row else combined_row row pivot_row column

unfoldable pub clearing_growth : FracRow → FracRow → ℕ → Option Growth
clearing_growth row pivot_row column =
    if unsigned_abs (number_of row column) == 0 then None else growth_of row pivot_row column

unfoldable pub new_row : List FracRow → ℕ → ℕ → ℕ → FracRow
new_row table row column other =
    if other == row then scaled_row (row_at table row) column
    else cleared_row (row_at table other) (row_at table row) column

-- the table after the pivot
unfoldable pub pivoted : List FracRow → ℕ → ℕ → List FracRow
pivoted table row column = list_below (new_row table row column) (length table)

-- the first outgrown product or difference of a row
unfoldable pub row_growth : List FracRow → ℕ → ℕ → ℕ → Option Place
row_growth table row column other =
    if other == row then None
    else option_map (λ growth. record { row = other; column = growth.column }) (clearing_growth (row_at table other) (row_at table row) column)

-- the place of the first outgrown product or difference, rows in order, then columns
unfoldable pub pivot_growth : List FracRow → ℕ → ℕ → Option Place
pivot_growth table row column = first_below (row_growth table row column) (length table)
