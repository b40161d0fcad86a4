-- The steps of a pivot.
use Rattle.std.proofs.Common.{◌≡◌, ℕ, ◌+◌, ◌<◌, ◌≢◌, true, false, eqb, ℤ, pos, ◌<ℤ◌, List, length, Option, Some, None, option_map, unsigned_abs, sym, ◌∙◌, ap, arith, add-one}
use Rattle.std.specs.Prelude.{is_some}
use Rattle.std.proofs.lemmas.Bool.Decides.{nat_tests}
use Rattle.sums.specs.Places.{first_below, or_else}
use Rattle.sums.proofs.Places.{first_found}
use Rattle.sums.proofs.Sizes.{zero_size, zero_size_tested}
use Rattle.sums.proofs.Tests.{passed_over, picked, unlike}
use Rattle.frac_row.specs.declared.row.FracRow.{FracRow}
use Rattle.frac_row.specs.declared.growth.Growth.{Growth}
use Rattle.frac_row.specs.Row.{number_of, IsSmall}
use Rattle.frac_row.specs.Combined.{combined_row, growth_of}
use Rattle.frac_row.proofs.Combinations.{small_growth}
use Rattle.row_store.specs.Table.{row_at}
use Rattle.row_store.specs.Pivot.{scaled_row, cleared_row, clearing_growth, new_row, row_growth, pivot_growth}
use Rattle.row_store.specs.declared.error.Place.{Place}

nonzero_size : (n : ℕ) → n ≢ 0 → eqb n 0 ≡ false
nonzero_size n ne = grind (arith, nat_tests)

nonzero_test : (q : ℤ) → q ≢ pos 0 → eqb (unsigned_abs q) 0 ≡ false
nonzero_test q ne = nonzero_size (unsigned_abs q) (λ e. ne (zero_size q e))

-- ---- one row
pub cleared_same : (row pivot_row : FracRow) (column : ℕ) → number_of row column ≡ pos 0 → row ≡ cleared_row row pivot_row column
unfolding cleared_row
cleared_same row pivot_row column e =
    picked (eqb (unsigned_abs (number_of row column)) 0) row (combined_row row pivot_row column) (zero_size_tested (number_of row column) e)

pub cleared_combined : (row pivot_row : FracRow) (column : ℕ) → number_of row column ≢ pos 0 → combined_row row pivot_row column ≡ cleared_row row pivot_row column
unfolding cleared_row
cleared_combined row pivot_row column ne =
    passed_over (eqb (unsigned_abs (number_of row column)) 0) row (combined_row row pivot_row column) (nonzero_test (number_of row column) ne)

pub growth_zero : (row pivot_row : FracRow) (column : ℕ) → number_of row column ≡ pos 0 → None ≡ clearing_growth row pivot_row column
unfolding clearing_growth
growth_zero row pivot_row column e =
    picked (eqb (unsigned_abs (number_of row column)) 0) None (growth_of row pivot_row column) (zero_size_tested (number_of row column) e)

pub growth_other : (row pivot_row : FracRow) (column : ℕ) → number_of row column ≢ pos 0 → growth_of row pivot_row column ≡ clearing_growth row pivot_row column
unfolding clearing_growth
growth_other row pivot_row column ne =
    passed_over (eqb (unsigned_abs (number_of row column)) 0) None (growth_of row pivot_row column) (nonzero_test (number_of row column) ne)

pub growth_small : (row pivot_row : FracRow) (column : ℕ) → number_of row column ≢ pos 0 → pos 0 <ℤ number_of pivot_row column → IsSmall row → IsSmall pivot_row → None ≡ clearing_growth row pivot_row column
growth_small row pivot_row column ne some h k = sym (small_growth row pivot_row column some h k) ∙ growth_other row pivot_row column ne

-- ---- the rows one after another
pub row_growth_self : (table : List FracRow) (row column place : ℕ) → place ≡ row → None ≡ row_growth table row column place
unfolding row_growth
row_growth_self table row column place e =
    picked (eqb place row) None (option_map (λ growth. record { row = place; column = growth.column }) (clearing_growth (row_at table place) (row_at table row) column)) (same_test place row e)
  where
    same_test : (m n : ℕ) → m ≡ n → eqb m n ≡ true
    same_test m n e = grind (arith, nat_tests)

pub row_growth_other : (table : List FracRow) (row column place : ℕ) (growth : Option Growth) → place ≢ row → growth ≡ clearing_growth (row_at table place) (row_at table row) column → option_map (λ g. record { row = place; column = g.column }) growth ≡ row_growth table row column place
unfolding row_growth
row_growth_other table row column place growth ne e =
    ap (option_map (λ g. record { row = place; column = g.column })) e
    ∙ passed_over (eqb place row) None (option_map (λ growth. record { row = place; column = growth.column }) (clearing_growth (row_at table place) (row_at table row) column)) (apart_test place row ne)
  where
    apart_test : (m n : ℕ) → m ≢ n → eqb m n ≡ false
    apart_test m n ne = grind (arith, nat_tests)

pub pivot_growth_found : (table : List FracRow) (row column place : ℕ) (growth : Option Place) → first_below (row_growth table row column) place ≡ None → place < length table → growth ≡ row_growth table row column place → is_some growth ≡ true → growth ≡ pivot_growth table row column
unfolding pivot_growth
pivot_growth_found table row column place (Some x) none lt e some = sym (first_found (row_growth table row column) place (length table) x none (sym e) lt)
pivot_growth_found table row column place None none lt e some = unlike (sym some)

-- one row more
pub pivot_growth_more : (table : List FracRow) (row column place : ℕ) (growth : Option Place) → first_below (row_growth table row column) place ≡ None → growth ≡ row_growth table row column place → is_some growth ≡ false → first_below (row_growth table row column) (place + 1) ≡ None
pivot_growth_more table row column place None none e t = ap (first_below (row_growth table row column)) (add-one place) ∙ ap (λ o. or_else o (row_growth table row column place)) none ∙ sym e
pivot_growth_more table row column place (Some x) none e t = unlike t

pub pivot_growth_none : (table : List FracRow) (row column place : ℕ) → first_below (row_growth table row column) place ≡ None → place ≡ length table → None ≡ pivot_growth table row column
unfolding pivot_growth
pivot_growth_none table row column place none e = sym (ap (first_below (row_growth table row column)) (sym e) ∙ none)

-- ---- what the rows become
pub new_row_scaled : (table : List FracRow) (row column place : ℕ) (pivot_row : FracRow) → place ≡ row → pivot_row ≡ row_at table place → scaled_row pivot_row column ≡ new_row table row column place
unfolding new_row
new_row_scaled table row column place pivot_row e same =
    ap (λ r. scaled_row r column) (same ∙ ap (row_at table) e)
    ∙ picked (eqb place row) (scaled_row (row_at table row) column) (cleared_row (row_at table place) (row_at table row) column) (same_test place row e)
  where
    same_test : (m n : ℕ) → m ≡ n → eqb m n ≡ true
    same_test m n e = grind (arith, nat_tests)

pub new_row_cleared : (table : List FracRow) (row column place : ℕ) (old_row pivot_row : FracRow) → place ≢ row → old_row ≡ row_at table place → pivot_row ≡ row_at table row → cleared_row old_row pivot_row column ≡ new_row table row column place
unfolding new_row
new_row_cleared table row column place old_row pivot_row ne e p =
    ap (λ r. cleared_row r pivot_row column) e ∙ ap (λ r. cleared_row (row_at table place) r column) p
    ∙ passed_over (eqb place row) (scaled_row (row_at table row) column) (cleared_row (row_at table place) (row_at table row) column) (apart_test place row ne)
  where
    apart_test : (m n : ℕ) → m ≢ n → eqb m n ≡ false
    apart_test m n ne = grind (arith, nat_tests)
