-- What is first too large of dual values in lowest terms.
use Rattle.std.proofs.Common.{◌≡◌, ℕ, ◌+◌, ◌<◌, Bool, true, false, nat_lt, Option, Some, None, ℤ, pos, ◌<ℤ◌, ◌≤ℤ◌, unsigned_abs, sym, ◌∙◌, ap, subst, arith}
use Rattle.std.specs.Prelude.{int_div, int_lt}
use Rattle.std.proofs.lemmas.Int.{ints}
use Rattle.sums.specs.Places.{first_below, or_else}
use Rattle.frac_row.specs.Row.{common_divisor, divided, number_of, reduced, width_of}
use Rattle.frac_row.specs.declared.row.FracRow.{FracRow}
use Rattle.frac_row.proofs.Rows.{number_of-reduced}
use Rattle.simplex_frac.specs.dual_lift.TooLarge.{excess_if, lowest_excess, lowest_scale_excess, lowest_value_excess}
use Rattle.simplex_frac.specs.declared.dual_lift.error.Excess.{Excess}
use Rattle.simplex_frac.proofs.dual_lift.Excesses.{found_behind, place_well, well}

past_test : (a b : ℤ) → a <ℤ b → int_lt a b ≡ true
past_test a b h = grind (arith, ints)

fit_test : (a b : ℤ) → b ≤ℤ a → int_lt a b ≡ false
fit_test a b h = grind (arith, ints)

-- the denominator and a number over the common divisor are those in lowest terms
pub den_over : (row : FracRow) (d : ℤ) → d ≡ pos (common_divisor row) → int_div row.den d ≡ (reduced row).den
unfolding reduced divided
den_over row d same = ap (int_div row.den) same

pub number_over : (row : FracRow) (k : ℕ) (d : ℤ) → d ≡ pos (common_divisor row) → k < width_of row → int_div (number_of row k) d ≡ number_of (reduced row) k
number_over row k d same below = ap (int_div (number_of row k)) same ∙ sym (number_of-reduced row k below)

module _ (most_scale most_value first : ℕ) (duals : FracRow) where
  abbrev values_excess : Option Excess
  values_excess = first_below (lowest_value_excess most_value first duals) (width_of duals)

  abbrev is_past : ℕ → Bool
  is_past k = nat_lt most_value (unsigned_abs (number_of (reduced duals) k))

  pub scale_past : pos most_scale <ℤ (reduced duals).den → lowest_excess most_scale most_value first duals ≡ Some (record { step = 4; at = 0 })
  scale_past past = ap (λ b. or_else (excess_if b 4 0) values_excess) (past_test (pos most_scale) (reduced duals).den past)

  scale_fits : (reduced duals).den ≤ℤ pos most_scale → lowest_scale_excess most_scale duals ≡ None
  scale_fits fits = well (int_lt (pos most_scale) (reduced duals).den) 4 0 (fit_test (pos most_scale) (reduced duals).den fits)

  pub value_past : (k at : ℕ) → (reduced duals).den ≤ℤ pos most_scale → first_below (lowest_value_excess most_value first duals) k ≡ None → k < width_of duals → is_past k ≡ true → at ≡ first + k
      → lowest_excess most_scale most_value first duals ≡ Some (record { step = 5; at = at })
  value_past k at fits before below past same =
      ap (λ o. or_else o values_excess) (scale_fits fits) ∙ found_behind is_past 5 first k (width_of duals) at before below past same

  pub value_fits : (k : ℕ) → first_below (lowest_value_excess most_value first duals) k ≡ None → is_past k ≡ false → first_below (lowest_value_excess most_value first duals) (k + 1) ≡ None
  value_fits k before fits = place_well (lowest_value_excess most_value first duals) k before (well (is_past k) 5 (first + k) fits)

  pub all_fit : (k : ℕ) → (reduced duals).den ≤ℤ pos most_scale → first_below (lowest_value_excess most_value first duals) k ≡ None → k ≡ width_of duals → lowest_excess most_scale most_value first duals ≡ None
  all_fit k fits before all = ap (λ o. or_else o values_excess) (scale_fits fits) ∙ subst (λ n. first_below (lowest_value_excess most_value first duals) n ≡ None) all before
