-- Bounds of sums below a bound.
use Rattle.std.proofs.Common.{◌≡◌, ℕ, zero, suc, ◌<◌, ◌≤◌, ℤ, unsigned_abs, sym, subst, arith, inl, inr}
use Rattle.std.proofs.lemmas.Int.{ints}
use Rattle.std.proofs.lemmas.Bool.{cases_lt}
use Rattle.sums.specs.Below.{sum_below, sum_below_ℤ}

-- a sum over more is no less
pub sum_below-le : (f : ℕ → ℕ) (m n : ℕ) → m ≤ n → sum_below f m ≤ sum_below f n
sum_below-le f m zero le = let e : m ≡ 0 = omega arith in subst (λ k. sum_below f k ≤ 0) (sym e) (omega arith)
sum_below-le f m (suc n) le =
    elim (cases_lt m (suc n)) [
      | inl lt ↦ let less : sum_below f m ≤ sum_below f n = sum_below-le f m n (omega arith) in omega arith
      | inr ge ↦ let e : m ≡ suc n = omega arith in subst (λ k. sum_below f k ≤ sum_below f (suc n)) (sym e) (omega arith)
    ]

-- no term is greater than the sum
pub term_le : (f : ℕ → ℕ) (k n : ℕ) → k < n → f k ≤ sum_below f n
term_le f k n lt = let le : sum_below f (suc k) ≤ sum_below f n = sum_below-le f (suc k) n lt in omega arith

-- a sum is no greater in size than the sum of the sizes
pub size-sum_below_ℤ : (f : ℕ → ℤ) (n : ℕ) → unsigned_abs (sum_below_ℤ f n) ≤ sum_below (λ k. unsigned_abs (f k)) n
size-sum_below_ℤ f zero = omega arith
size-sum_below_ℤ f (suc n) = let le : unsigned_abs (sum_below_ℤ f n) ≤ sum_below (λ k. unsigned_abs (f k)) n = size-sum_below_ℤ f n in omega (arith, ints)
