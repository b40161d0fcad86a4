-- Rows that are to take the places of others.
use Rattle.std.specs.Prelude.{ℕ, List, slice_index_or, Option, Some, None}
use Rattle.frac_row.specs.declared.row.FracRow.{FracRow}
use Rattle.row_store.specs.Table.{row_at}

abbrev pub value_or : {R : Type 0} → (R → FracRow) → Option R → FracRow → FracRow
value_or full (Some fresh) row = full fresh
value_or full None row = row

-- the row of a place, with the changes made
abbrev pub row_after : {R : Type 0} → (R → FracRow) → List FracRow → List (Option R) → ℕ → FracRow
row_after full table changes place = value_or full (slice_index_or changes place None) (row_at table place)
