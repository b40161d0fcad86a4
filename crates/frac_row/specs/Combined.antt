-- The row that a pivot makes of two, and the first outgrown number on the way to it.
use Rattle.std.specs.Prelude.{ℕ, ℤ, pos, ◌-ℤ◌, ◌*ℤ◌, unsigned_abs, int_div, Option, Some, None, if◌then◌else◌}
use Rattle.sums.specs.Divisors.{gcd}
use Rattle.sums.specs.Places.{list_below, first_below, or_else}
use Rattle.frac_row.specs.Outgrown.{is_outgrown, IsWithin}
use Rattle.frac_row.specs.Row.{number_of, width_of, reduced}
use Rattle.frac_row.specs.declared.row.FracRow.{FracRow}
use Rattle.frac_row.specs.declared.growth.Growth.{Growth}
use Rattle.frac_row.specs.declared.factors.Factors.{Factors}

-- the pivot row's number and the row's own, each over their greatest common divisor
abbrev pub factors_of_numbers : ℤ → ℤ → Factors
factors_of_numbers q p =
    let divisor = pos (gcd (unsigned_abs p) (unsigned_abs q)) in
    record { own = int_div p divisor; pivot = int_div q divisor }

-- those of their numbers in a column
unfoldable pub factors_of : FracRow → FracRow → ℕ → Factors
factors_of row pivot_row column = factors_of_numbers (number_of row column) (number_of pivot_row column)

abbrev pub combined_number : Factors → ℤ → ℤ → ℤ
combined_number factors n r = (factors.own *ℤ n) -ℤ (factors.pivot *ℤ r)

-- no product or difference of the place is outgrown
pub record PlaceFits (f : Factors) (n r : ℤ) : Type 0 where
  pub own_product : IsWithin (f.own *ℤ n)
  pub pivot_product : IsWithin (f.pivot *ℤ r)
  pub difference : IsWithin (combined_number f n r)

-- before it is reduced
unfoldable pub combination : Factors → FracRow → FracRow → FracRow
combination factors row pivot_row = record {
  numbers = list_below (λ column. combined_number factors (number_of row column) (number_of pivot_row column)) (width_of row);
  den = factors.own *ℤ row.den;
}

-- the row less the multiple of the pivot row that leaves 0 in the column
unfoldable pub combined_row : FracRow → FracRow → ℕ → FracRow
combined_row row pivot_row column = reduced (combination (factors_of row pivot_row column) row pivot_row)

-- an outgrown result of two operands
abbrev pub outgrowth : ℕ → ℤ → ℤ → ℤ → Option Growth
outgrowth column left right outcome =
    if is_outgrown outcome then Some (record { column = column; left = left; right = right }) else None

-- the first outgrown product or difference of a column
unfoldable pub place_growth : Factors → ℕ → ℤ → ℤ → Option Growth
place_growth factors column n r =
    or_else (outgrowth column factors.own n (factors.own *ℤ n))
    (or_else (outgrowth column factors.pivot r (factors.pivot *ℤ r))
    (outgrowth column (factors.own *ℤ n) (factors.pivot *ℤ r) (combined_number factors n r)))

-- the first outgrown product or difference, columns in order and the denominator last
unfoldable pub growth_by : Factors → FracRow → FracRow → Option Growth
growth_by factors row pivot_row =
    or_else (first_below (λ column. place_growth factors column (number_of row column) (number_of pivot_row column)) (width_of row))
    (outgrowth (width_of row) factors.own row.den (factors.own *ℤ row.den))

abbrev pub growth_of : FracRow → FracRow → ℕ → Option Growth
growth_of row pivot_row column = growth_by (factors_of row pivot_row column) row pivot_row
