-- Rows by their numbers that are not 0.
use Rattle.std.specs.Prelude.{ℕ, ℤ, pos, ◌+◌, ◌^◌, ◌≤◌, ◌<◌, ◌≢◌, ◌==◌, List, [], ◌∷◌, slice_index_or, int_div, neg_ℤ, if◌then◌else◌}
use Rattle.sums.specs.Places.{list_below}
use Rattle.frac_row.specs.declared.row.FracRow.{FracRow}
use Rattle.frac_row.specs.declared.entry.Entry.{Entry}

-- the number that stands in a column, 0 where none does
abbrev pub number_in : List Entry → ℕ → ℤ
number_in [] column = pos 0
number_in (entry ∷ rest) column = if entry.column == column then entry.number else number_in rest column

-- the number at a place of the list
abbrev pub number_at : List Entry → ℕ → ℤ
number_at entries place = (slice_index_or entries place (record { column = 0; number = pos 0 })).number

abbrev pub divided_entry : ℤ → Entry → Entry
divided_entry divisor entry = record { column = entry.column; number = int_div entry.number divisor }

abbrev pub turned_entry : Entry → Entry
turned_entry entry = record { column = entry.column; number = neg_ℤ entry.number }

-- the columns rise from a first one on and stay below a bound, and no number is 0
abbrev pub AreEntries : ℕ → ℕ → List Entry → Type 0
AreEntries from width [] = Unit {0}
AreEntries from width (entry ∷ rest) =
    (from ≤ entry.column) × (entry.column < width) × (entry.number ≢ pos 0) × AreEntries (entry.column + 1) width rest

-- the same of numbers that may be 0
abbrev pub AreRising : ℕ → ℕ → List Entry → Type 0
AreRising from width [] = Unit {0}
AreRising from width (entry ∷ rest) = (from ≤ entry.column) × (entry.column < width) × AreRising (entry.column + 1) width rest

-- what is held of a row with so many columns
pub record IsHeld (entries : List Entry) (width : ℕ) : Type 0 where
  pub few : width < 2 ^ 32
  pub rising : AreEntries 0 width entries

-- the row with all its numbers
unfoldable pub content_of : List Entry → ℕ → ℤ → FracRow
content_of entries width den = record { numbers = list_below (number_in entries) width; den = den }
