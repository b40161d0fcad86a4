-- Lines, with all their numbers or without those that are 0.
use Rattle.std.specs.Prelude.{ℕ, ℤ, pos, ◌≡◌, ◌+◌, ◌<◌, ◌≤◌, List, [], ◌∷◌, unsigned_abs}
use Rattle.frac_row.specs.Row.{number_of, width_of}
use Rattle.frac_row.specs.declared.row.FracRow.{FracRow}
use Rattle.frac_row.specs.declared.entry.Entry.{Entry}
use Rattle.frac_row.specs.declared.line.Layout.{Layout}
use Rattle.frac_row.specs.declared.line.Layout.TheVariants.{Full, Sparse}

-- all numbers of a line
abbrev pub numbers_of : Layout → List ℤ
numbers_of (Full numbers) = numbers.items
numbers_of (Sparse row) = row.numbers

-- numbers with their columns, from a first column on
abbrev pub numbered : ℕ → List ℤ → List Entry
numbered from [] = []
numbered from (number ∷ rest) = record { column = from; number = number } ∷ numbered (from + 1) rest

-- the sizes of numbers, summed
abbrev pub sizes_of : List Entry → ℕ
sizes_of [] = 0
sizes_of (entry ∷ rest) = unsigned_abs entry.number + sizes_of rest

-- a row over 1 with the numbers of f below a column, and zeros from there on
pub record IsFilledRow (row : FracRow) (f : ℕ → ℤ) (width column : ℕ) : Type 0 where
  pub same_width : width_of row ≡ width
  pub over_one : row.den ≡ pos 1
  pub filled : (place : ℕ) → place < column → place < width → number_of row place ≡ f place
  pub zeros : (place : ℕ) → column ≤ place → number_of row place ≡ pos 0
