-- When a pivot is refused, and when a step is.
use Rattle.std.specs.Prelude.{ℕ, List, Option, ◌≡◌, Some, None}
use Rattle.frac_row.specs.declared.row.FracRow.{FracRow}
use Rattle.row_store.specs.Pivot.{pivot_growth}
use Rattle.row_store.specs.Steps.{step_growth}
use Rattle.row_store.specs.declared.error.Place.{Place}
use Rattle.row_store.specs.declared.error.PivotError.{PivotError}
use Rattle.row_store.specs.declared.error.PivotError.TheVariants.{Grew, NoMemory}

-- by the place of the first outgrown product or difference, if there is one: that place; want of memory,
-- only where there is none
abbrev pub IsRefusal : Option Place → PivotError → Type 0
IsRefusal growth (Grew row column) = growth ≡ Some (record { row = row; column = column })
IsRefusal growth NoMemory = growth ≡ None

abbrev pub IsPivotError : List FracRow → ℕ → ℕ → PivotError → Type 0
IsPivotError table row column = IsRefusal (pivot_growth table row column)

abbrev pub IsStepError : List FracRow → ℕ → ℕ → PivotError → Type 0
IsStepError table row column = IsRefusal (step_growth table row column)
