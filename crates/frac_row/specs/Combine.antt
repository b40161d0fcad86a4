-- When two rows cannot be combined.
use Rattle.std.specs.Prelude.{ℕ, ◌≡◌, Some, None}
use Rattle.frac_row.specs.Combined.{growth_of}
use Rattle.frac_row.specs.declared.row.FracRow.{FracRow}
use Rattle.frac_row.specs.declared.combining.CombineError.{CombineError}
use Rattle.frac_row.specs.declared.combining.CombineError.TheVariants.{Grew, NoMemory}

-- the first outgrown product or difference with its operands; want of memory, only where there is none
abbrev pub IsCombineError : FracRow → FracRow → ℕ → CombineError → Type 0
IsCombineError row pivot_row c (Grew column left right) =
    growth_of row pivot_row c ≡ Some (record { column = column; left = left; right = right })
IsCombineError row pivot_row c NoMemory = growth_of row pivot_row c ≡ None
