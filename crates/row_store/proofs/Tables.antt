-- Laws of tables and of the pivot.
use Rattle.std.proofs.Common.{◌≡◌, ℕ, ◌<◌, Bool, true, false, cond, eqb, pos, ◌<ℤ◌, List, length, Option, Some, None, option_map, unsigned_abs, refl, sym, ◌∙◌, ap, arith}
use Rattle.sums.proofs.Places.{length-list_below, get_or-list_below, nothing_at}
use Rattle.sums.proofs.Tests.{by_choice, unlike}
use Rattle.frac_row.specs.declared.row.FracRow.{FracRow}
use Rattle.frac_row.specs.declared.growth.Growth.{Growth}
use Rattle.frac_row.specs.Row.{number_of, width_of, IsRow}
use Rattle.frac_row.specs.Combined.{combined_row, combination, factors_of, growth_of}
use Rattle.frac_row.proofs.Rows.{reduced_is_row, width_of-reduced}
use Rattle.frac_row.proofs.Combinations.{factors_are, combination_is_row}
use Rattle.row_store.specs.Table.{no_row, row_at, number_at, columns_of, height_of, IsTable}
use Rattle.row_store.specs.Pivot.{scaled_row, cleared_row, clearing_growth, new_row, pivoted, row_growth, pivot_growth}
use Rattle.row_store.specs.declared.error.Place.{Place}

-- a line of the table, in the terms of its height
pub in_table : (table : List FracRow) (row : ℕ) → row < height_of table → row < length table
in_table table row lt = omega arith

-- ---- single rows
pub width_of-combination : (row pivot_row : FracRow) (column : ℕ) → width_of (combined_row row pivot_row column) ≡ width_of row
unfolding combined_row combination
width_of-combination row pivot_row column = width_of-reduced _ ∙ length-list_below _ (width_of row)

pub width_of-cleared : (row pivot_row : FracRow) (column : ℕ) → width_of (cleared_row row pivot_row column) ≡ width_of row
unfolding cleared_row
width_of-cleared row pivot_row column =
    by_choice (λ r. width_of r ≡ width_of row) (eqb (unsigned_abs (number_of row column)) 0) row (combined_row row pivot_row column) (λ _. refl) (λ _. width_of-combination row pivot_row column)

pub width_of-scaled : (row : FracRow) (column : ℕ) → width_of (scaled_row row column) ≡ width_of row
unfolding scaled_row
width_of-scaled row column = width_of-reduced _

scaled_is_row : (row : FracRow) (column : ℕ) → IsRow row → pos 0 <ℤ number_of row column → IsRow (scaled_row row column)
unfolding scaled_row
scaled_is_row row column h some =
    reduced_is_row _ (record { within = h.within; den_within = h.within column; positive = some })

combined_is_row : (row pivot_row : FracRow) (column : ℕ) → IsRow row → pos 0 <ℤ number_of pivot_row column → growth_of row pivot_row column ≡ None → IsRow (combined_row row pivot_row column)
unfolding combined_row
combined_is_row row pivot_row column h some e =
    reduced_is_row _ (combination_is_row (factors_of row pivot_row column) row pivot_row (factors_are row pivot_row column some).own_positive h e)

cleared_is_row : (row pivot_row : FracRow) (column : ℕ) → IsRow row → pos 0 <ℤ number_of pivot_row column → clearing_growth row pivot_row column ≡ None → IsRow (cleared_row row pivot_row column)
unfolding cleared_row clearing_growth
cleared_is_row row pivot_row column h some e =
    by_choice IsRow (eqb (unsigned_abs (number_of row column)) 0) row (combined_row row pivot_row column) (λ _. h) (λ t. combined_is_row row pivot_row column h some (other _ _ t e))
  where
    other : (b : Bool) (o : Option Growth) → b ≡ false → cond b None o ≡ None → o ≡ None
    other false o t e = e
    other true o t e = unlike t

-- ---- the pivot
pub length-pivoted : (table : List FracRow) (row column : ℕ) → length (pivoted table row column) ≡ length table
unfolding pivoted
length-pivoted table row column = length-list_below (new_row table row column) (length table)

pub row_at-pivoted : (table : List FracRow) (row column other : ℕ) → other < length table → row_at (pivoted table row column) other ≡ new_row table row column other
unfolding pivoted
row_at-pivoted table row column other lt = get_or-list_below (new_row table row column) (length table) other no_row lt

pub width_of-new_row : (table : List FracRow) (row column other : ℕ) → IsTable table → row < length table → other < length table → width_of (new_row table row column other) ≡ columns_of table
unfolding new_row
width_of-new_row table row column other h r o =
    by_choice (λ x. width_of x ≡ columns_of table) (eqb other row) (scaled_row (row_at table row) column) (cleared_row (row_at table other) (row_at table row) column)
    (λ _. width_of-scaled (row_at table row) column ∙ h.same_width row r)
    (λ _. width_of-cleared (row_at table other) (row_at table row) column ∙ h.same_width other o)

-- where the pivot is not outgrown, no row is
pub no_clearing_growth : (table : List FracRow) (row column other : ℕ) → pivot_growth table row column ≡ None → other < length table → eqb other row ≡ false → clearing_growth (row_at table other) (row_at table row) column ≡ None
unfolding pivot_growth row_growth
no_clearing_growth table row column other e lt apart =
    unmapped (eqb other row) (clearing_growth (row_at table other) (row_at table row) column) apart (nothing_at (row_growth table row column) (length table) other e lt)
  where
    unmapped : (b : Bool) (o : Option Growth) → b ≡ false → ◌≡◌ {A = Option Place} (cond b None (option_map (λ growth. record { row = other; column = growth.column }) o)) None → o ≡ None
    unmapped true o t e = unlike t
    unmapped false None t e = refl
    unmapped false (Some g) t e = absurd (some_none e)
      where
        some_none : {p : Place} → Some p ≡ None → ⊥
        some_none e = cc

new_row_is_row : (table : List FracRow) (row column other : ℕ) → IsTable table → row < length table → pos 0 <ℤ number_at table row column → pivot_growth table row column ≡ None → other < length table → IsRow (new_row table row column other)
unfolding new_row
new_row_is_row table row column other h r some e o =
    by_choice IsRow (eqb other row) (scaled_row (row_at table row) column) (cleared_row (row_at table other) (row_at table row) column)
    (λ _. scaled_is_row (row_at table row) column (h.rows row r) some)
    (λ t. cleared_is_row (row_at table other) (row_at table row) column (h.rows other o) some (no_clearing_growth table row column other e o t))

pub columns_of-pivoted : (table : List FracRow) (row column : ℕ) → IsTable table → row < length table → columns_of (pivoted table row column) ≡ columns_of table
columns_of-pivoted table row column h r =
    ap width_of (row_at-pivoted table row column 0 (omega (arith, h.tall))) ∙ width_of-new_row table row column 0 h r (omega (arith, h.tall))

-- a pivot that is not outgrown leaves a table
pub pivoted_is_table : (table : List FracRow) (row column : ℕ) → IsTable table → row < length table → pos 0 <ℤ number_at table row column → pivot_growth table row column ≡ None → IsTable (pivoted table row column)
pivoted_is_table table row column h r some e = record {
  tall = rw (length-pivoted table row column) h.tall;
  few_rows = rw (length-pivoted table row column) h.few_rows;
  few_columns = rw (columns_of-pivoted table row column h r) h.few_columns;
  identity = rw (length-pivoted table row column, columns_of-pivoted table row column h r) h.identity;
  same_width = λ other lt. same_width_at other (rw (length-pivoted table row column) at lt);
  rows = λ other lt. rows_at other (rw (length-pivoted table row column) at lt);
}
  where
    same_width_at : (other : ℕ) → other < length table → width_of (row_at (pivoted table row column) other) ≡ columns_of (pivoted table row column)
    same_width_at other lt =
        ap width_of (row_at-pivoted table row column other lt) ∙ width_of-new_row table row column other h r lt ∙ sym (columns_of-pivoted table row column h r)

    rows_at : (other : ℕ) → other < length table → IsRow (row_at (pivoted table row column) other)
    rows_at other lt = rw (row_at-pivoted table row column other lt) (new_row_is_row table row column other h r some e lt)
