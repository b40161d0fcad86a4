-- The scale of the parts of columns in lowest terms, by the greatest common divisor of both.
use Rattle.std.proofs.Common.{◌≡◌, ℕ, ◌+◌, ◌<◌, Bool, List, ℤ, pos, ◌<ℤ◌, unsigned_abs, sym, ◌∙◌, ap, add-one, arith}
use Rattle.std.specs.Prelude.{int_div, int_lt}
use Rattle.std.proofs.lemmas.Int.{ints}
use Rattle.sums.specs.Divisors.{gcd, gcd_below}
use Rattle.sums.proofs.Places.{get_or-list_below, length-list_below}
use Rattle.frac_row.specs.Row.{common_divisor, number_of}
use Rattle.frac_row.specs.declared.row.FracRow.{FracRow}
use Rattle.frac_row.proofs.Rows.{common_divisor_positive}
use Rattle.simplex_frac.specs.end_check.Ends.{part_in}
use Rattle.dual_bound.specs.Prices.{max_scale}
use Rattle.simplex_frac.specs.dual_lift.TooLarge.{excess_if}
use Rattle.simplex_frac.proofs.dual_lift.LowestTerms.{den_over}
use Rattle.price_lift.specs.EndLifts.{first_parts, parts_excess}

module _ (point : List ℕ) (scale count : ℕ) where
  abbrev row : FracRow
  row = first_parts point scale count

  abbrev size : ℕ → ℕ
  size k = unsigned_abs (number_of row k)

  size_is : (k : ℕ) → k < count → part_in point k ≡ size k
  size_is k below = ap unsigned_abs (sym (get_or-list_below (λ column. pos (part_in point column)) count k (pos 0) below))

  -- one column more
  pub divisor_more : (k part : ℕ) (before now : ℤ) → before ≡ pos (gcd_below scale size k) → k < count → part ≡ part_in point k → now ≡ pos (gcd (unsigned_abs before) part) → now ≡ pos (gcd_below scale size (k + 1))
  divisor_more k part before now so_far below is made =
      made ∙ ap (λ z. pos (gcd (unsigned_abs z) part)) so_far ∙ ap (λ p. pos (gcd (gcd_below scale size k) p)) (is ∙ size_is k below) ∙ ap (λ n. pos (gcd_below scale size n)) (sym (add-one k))

  -- all columns
  pub divisor_of_all : (k : ℕ) (now : ℤ) → now ≡ pos (gcd_below scale size k) → k ≡ count → now ≡ pos (common_divisor row)
  unfolding common_divisor
  divisor_of_all k now so_far all = so_far ∙ ap (λ n. pos (gcd_below scale size n)) (all ∙ sym (length-list_below (λ column. pos (part_in point column)) count))

  pub some_divisor : (now : ℤ) → 0 < scale → now ≡ pos (common_divisor row) → pos 0 <ℤ now
  some_divisor now some is =
      let scaled : pos 0 <ℤ pos scale = omega (arith, ints, some) in
      omega (arith, ints, is, common_divisor_positive row scaled)

  -- whether the scale over the divisor is past its limit
  pub parts_told : (d q : ℤ) (past b : Bool) → d ≡ pos (common_divisor row) → q ≡ int_div (pos scale) d → past ≡ int_lt (pos max_scale) q → past ≡ b → parts_excess row ≡ excess_if b 6 0
  parts_told d q past b divisor over test is =
      ap (λ z. excess_if (int_lt (pos max_scale) z) 6 0) (sym (over ∙ den_over row d divisor)) ∙ ap (λ c. excess_if c 6 0) (sym test ∙ is)
