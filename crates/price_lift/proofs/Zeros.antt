-- Whether values are all 0.
use Rattle.std.proofs.Common.{◌≡◌, ◌≢◌, ℕ, zero, suc, ◌+◌, ◌<◌, Bool, true, false, ◌==◌, ◌&&◌, ℤ, pos, unsigned_abs, refl, subst, inl, inr, arith}
use Rattle.std.proofs.lemmas.Bool.{and_left, cases_lt}
use Rattle.std.proofs.lemmas.Bool.Decides.{nat_tests}
use Rattle.sums.proofs.Sizes.{zero_size}
use Rattle.price_lift.specs.Steps.{are_zero}

not_zero : (z : ℤ) → z ≢ pos 0 → (unsigned_abs z == 0) ≡ false
not_zero z differ = let some : unsigned_abs z ≢ 0 = λ e. differ (zero_size z e) in grind (arith, nat_tests)

right_false : (b c : Bool) → c ≡ false → (b && c) ≡ false
right_false true c e = e
right_false false c e = refl

-- one that is not decides
pub other_value : (value : ℕ → ℤ) (from n k : ℕ) → k < n → value (from + k) ≢ pos 0 → are_zero value from n ≡ false
unfolding are_zero
other_value value from zero k below differ = absurd (omega arith)
other_value value from (suc n) k below differ = elim (cases_lt k n) [
  | inl before ↦ and_left (are_zero value from n) (unsigned_abs (value (from + n)) == 0) (other_value value from n k before differ)
  | inr last ↦
      let same : k ≡ n = omega arith in
      right_false (are_zero value from n) (unsigned_abs (value (from + n)) == 0) (not_zero (value (from + n)) (subst (λ j. value (from + j) ≢ pos 0) same differ))
]
