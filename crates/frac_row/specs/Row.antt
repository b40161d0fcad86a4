-- Rows of whole numbers over one positive number.
use Rattle.std.specs.Prelude.{ℕ, ℤ, pos, ◌<ℤ◌, ◌≤◌, ◌-◌, ◌^◌, length, slice_index_or, unsigned_abs, int_div, All}
use Rattle.sums.specs.Divisors.{gcd_below}
use Rattle.sums.specs.Places.{list_below}
use Rattle.frac_row.specs.Outgrown.{IsWithin}
use Rattle.frac_row.specs.declared.row.FracRow.{FracRow}

-- the number in a column, and 0 past the last one
abbrev pub number_of : FracRow → ℕ → ℤ
number_of row column = slice_index_or row.numbers column (pos 0)

abbrev pub width_of : FracRow → ℕ
width_of row = length row.numbers

-- no number is outgrown, and the denominator is above 0
pub record IsRow (row : FracRow) : Type 0 where
  pub within : (column : ℕ) → IsWithin (number_of row column)
  pub den_within : IsWithin row.den
  pub positive : pos 0 <ℤ row.den

-- the greatest common divisor of all numbers and the denominator
unfoldable pub common_divisor : FracRow → ℕ
common_divisor row =
    gcd_below (unsigned_abs row.den) (λ column. unsigned_abs (number_of row column)) (width_of row)

-- all numbers and the denominator over a divisor of them
unfoldable pub divided : FracRow → ℕ → FracRow
divided row divisor = record {
  numbers = list_below (λ column. int_div (number_of row column) (pos divisor)) (width_of row);
  den = int_div row.den (pos divisor);
}

-- in lowest terms
unfoldable pub reduced : FracRow → FracRow
reduced row = divided row (common_divisor row)

-- so small that no product or difference of such rows can be outgrown
pub record IsSmall (row : FracRow) : Type 0 where
  pub numbers : All (λ number. unsigned_abs number ≤ 2 ^ 63 - 1) row.numbers
  pub den : unsigned_abs row.den ≤ 2 ^ 63 - 1
