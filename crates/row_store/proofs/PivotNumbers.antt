-- What a pivot makes of the numbers of a row.
use Rattle.std.proofs.Common.{◌≡◌, ℕ, ◌+◌, ◌<◌, ◌≢◌, true, eqb, ℤ, pos, ◌-ℤ◌, ◌*ℤ◌, ◌<ℤ◌, List, length, unsigned_abs, refl, sym, ◌∙◌, ap, subst, arith}
use Rattle.std.proofs.lemmas.Int.{ints}
use Rattle.std.proofs.lemmas.Bool.{eqb-true, eq-eqb, ne_eqb, cond-true, cond-false}
use lib.IntN.{*ℤ_comm, *ℤ-zero, zero-*ℤ}
use Rattle.sums.specs.Divisors.{gcd}
use Rattle.sums.proofs.Divisors.{gcd_is, gcd_positive}
use Rattle.sums.proofs.Division.{*ℤ-int_div}
use Rattle.sums.proofs.Integers.{*ℤ_left_comm, positive_product}
use Rattle.sums.proofs.Sizes.{pos_above}
use Rattle.sums.proofs.Tests.{by_choice}
use Rattle.frac_row.specs.declared.row.FracRow.{FracRow}
use Rattle.frac_row.specs.declared.factors.Factors.{Factors}
use Rattle.frac_row.specs.Row.{number_of, width_of, IsRow, common_divisor}
use Rattle.frac_row.specs.Combined.{combination, combined_row, factors_of}
use Rattle.frac_row.proofs.Rows.{number_times, den_times, common_divisor_positive}
use Rattle.frac_row.proofs.Combinations.{factors_are, number_of-combination, den-combination}
use Rattle.row_store.specs.Table.{row_at, number_at, IsTable}
use Rattle.row_store.specs.Pivot.{scaled_row, cleared_row, new_row, pivoted}
use Rattle.row_store.proofs.Tables.{row_at-pivoted}

-- a multiple of the new row is a multiple of the old one less a multiple of the pivot row, which leaves 0 in the column
pub record IsCleared (old new pivot_row : FracRow) (column : ℕ) : Type 0 where
  pub by : ℤ
  pub own : ℤ
  pub other : ℤ
  pub by_positive : pos 0 <ℤ by
  pub own_positive : pos 0 <ℤ own
  pub numbers : (k : ℕ) → k < width_of old → by *ℤ number_of new k ≡ (own *ℤ number_of old k) -ℤ (other *ℤ number_of pivot_row k)
  pub den : by *ℤ new.den ≡ own *ℤ old.den
  pub clears : own *ℤ number_of old column ≡ other *ℤ number_of pivot_row column

-- a multiple of the new row is the old one, over its number in the column
pub record IsScaled (old new : FracRow) (column : ℕ) : Type 0 where
  pub by : ℤ
  pub by_positive : pos 0 <ℤ by
  pub numbers : (k : ℕ) → by *ℤ number_of new k ≡ number_of old k
  pub den : by *ℤ new.den ≡ number_of old column

-- each factor times the other number is one product
factors_clear : (row pivot_row : FracRow) (column : ℕ) → pos 0 <ℤ number_of pivot_row column → (factors_of row pivot_row column).own *ℤ number_of row column ≡ (factors_of row pivot_row column).pivot *ℤ number_of pivot_row column
unfolding factors_of
factors_clear row pivot_row column some =
    let p : ℤ = number_of pivot_row column in
    let q : ℤ = number_of row column in
    let g : ℕ = gcd (unsigned_abs p) (unsigned_abs q) in
    crossed (pos g) p q _ _ (pos_above g (gcd_positive (unsigned_abs p) (unsigned_abs q) (not_both p q some)))
    (*ℤ-int_div p g (gcd_is (unsigned_abs p) (unsigned_abs q)).0) (*ℤ-int_div q g (gcd_is (unsigned_abs p) (unsigned_abs q)).1)
  where
    not_both : (p q : ℤ) → pos 0 <ℤ p → 0 < unsigned_abs p + unsigned_abs q
    not_both p q h = omega (arith, ints)

    crossed : (g p q u v : ℤ) → pos 0 <ℤ g → g *ℤ u ≡ p → g *ℤ v ≡ q → u *ℤ q ≡ v *ℤ p
    crossed g p q u v above e f =
        ap (λ x. u *ℤ x) (sym f) ∙ *ℤ_left_comm u g v ∙ ap (λ x. g *ℤ x) (*ℤ_comm u v) ∙ *ℤ_left_comm g v u ∙ ap (λ x. v *ℤ x) e

cleared_same : (row pivot_row : FracRow) (column : ℕ) → number_of row column ≡ pos 0 → IsCleared row row pivot_row column
cleared_same row pivot_row column e = record {
  by = pos 1;
  own = pos 1;
  other = pos 0;
  by_positive = omega (arith, ints);
  own_positive = omega (arith, ints);
  numbers = λ k lt. omega (arith, ints, zero-*ℤ (number_of pivot_row k));
  den = refl;
  clears = ap (λ x. pos 1 *ℤ x) e ∙ *ℤ-zero (pos 1) ∙ sym (zero-*ℤ (number_of pivot_row column));
}

cleared_combined : (row pivot_row : FracRow) (column : ℕ) → IsRow row → pos 0 <ℤ number_of pivot_row column → IsCleared row (combined_row row pivot_row column) pivot_row column
unfolding combined_row
cleared_combined row pivot_row column h some =
    let f : Factors = factors_of row pivot_row column in
    let whole : FracRow = combination f row pivot_row in
    let own : pos 0 <ℤ f.own = (factors_are row pivot_row column some).own_positive in
    let den : pos 0 <ℤ whole.den = rw (den-combination f row pivot_row) (positive_product f.own row.den own h.positive) in
    record {
      by = pos (common_divisor whole);
      own = f.own;
      other = f.pivot;
      by_positive = pos_above (common_divisor whole) (common_divisor_positive whole den);
      own_positive = own;
      numbers = λ k lt. number_times whole k ∙ number_of-combination f row pivot_row k lt;
      den = den_times whole ∙ den-combination f row pivot_row;
      clears = factors_clear row pivot_row column some;
    }

is_cleared : (row pivot_row : FracRow) (column : ℕ) → IsRow row → pos 0 <ℤ number_of pivot_row column → IsCleared row (cleared_row row pivot_row column) pivot_row column
unfolding cleared_row
is_cleared row pivot_row column h some =
    by_choice (λ new. IsCleared row new pivot_row column) (eqb (unsigned_abs (number_of row column)) 0) row (combined_row row pivot_row column)
    (λ t. cleared_same row pivot_row column (no_size (number_of row column) t)) (λ _. cleared_combined row pivot_row column h some)
  where
    no_size : (q : ℤ) → eqb (unsigned_abs q) 0 ≡ true → q ≡ pos 0
    no_size q t = let e : unsigned_abs q ≡ 0 = eqb-true (unsigned_abs q) 0 t in omega (arith, ints)

is_scaled : (row : FracRow) (column : ℕ) → pos 0 <ℤ number_of row column → IsScaled row (scaled_row row column) column
unfolding scaled_row
is_scaled row column some =
    let whole : FracRow = record { numbers = row.numbers; den = number_of row column } in
    record {
      by = pos (common_divisor whole);
      by_positive = pos_above (common_divisor whole) (common_divisor_positive whole some);
      numbers = λ k. number_times whole k;
      den = den_times whole;
    }

-- ---- the rows of a table after a pivot
pub pivot_clears : (table : List FracRow) (row column other : ℕ) → IsTable table → pos 0 <ℤ number_at table row column → other < length table → other ≢ row → IsCleared (row_at table other) (row_at (pivoted table row column) other) (row_at table row) column
unfolding new_row
pivot_clears table row column other h some lt apart =
    subst (λ new. IsCleared (row_at table other) new (row_at table row) column)
    (sym (row_at-pivoted table row column other lt ∙ cond-false (eqb other row) (scaled_row (row_at table row) column) (cleared_row (row_at table other) (row_at table row) column) (ne_eqb other row apart)))
    (is_cleared (row_at table other) (row_at table row) column (h.rows other lt) some)

pub pivot_scales : (table : List FracRow) (row column : ℕ) → pos 0 <ℤ number_at table row column → row < length table → IsScaled (row_at table row) (row_at (pivoted table row column) row) column
unfolding new_row
pivot_scales table row column some lt =
    subst (λ new. IsScaled (row_at table row) new column)
    (sym (row_at-pivoted table row column row lt ∙ cond-true (eqb row row) (scaled_row (row_at table row) column) (cleared_row (row_at table row) (row_at table row) column) (eq-eqb row row refl)))
    (is_scaled (row_at table row) column some)
