-- Laws of sums of whole numbers below a bound.
use Rattle.std.proofs.Common.{◌≡◌, ℕ, zero, suc, ◌<◌, ℤ, pos, ◌+ℤ◌, ◌-ℤ◌, ◌*ℤ◌, refl, ◌∙◌, ap, arith}
use Rattle.std.proofs.lemmas.Int.{ints}
use lib.IntN.{*ℤ-zero}
use Rattle.sums.specs.Below.{sum_below, sum_below_ℤ}
use Rattle.sums.proofs.Integers.{*ℤ-+ℤ}

-- sums of equal terms
pub sum_below_ℤ-same : (f g : ℕ → ℤ) (n : ℕ) → ((k : ℕ) → k < n → f k ≡ g k) → sum_below_ℤ f n ≡ sum_below_ℤ g n
sum_below_ℤ-same f g zero h = refl
sum_below_ℤ-same f g (suc n) h =
    ap (λ x. x +ℤ f n) (sum_below_ℤ-same f g n (λ k lt. h k (omega arith))) ∙ ap (λ x. sum_below_ℤ g n +ℤ x) (h n (omega arith))

-- a factor of all terms
pub *ℤ-sum_below_ℤ : (c : ℤ) (f : ℕ → ℤ) (n : ℕ) → c *ℤ sum_below_ℤ f n ≡ sum_below_ℤ (λ k. c *ℤ f k) n
*ℤ-sum_below_ℤ c f zero = *ℤ-zero c
*ℤ-sum_below_ℤ c f (suc n) = *ℤ-+ℤ c (sum_below_ℤ f n) (f n) ∙ ap (λ x. x +ℤ (c *ℤ f n)) (*ℤ-sum_below_ℤ c f n)

-- a sum of numbers from 0 up
pub sum_below_ℤ-pos : (f : ℕ → ℕ) (n : ℕ) → sum_below_ℤ (λ k. pos (f k)) n ≡ pos (sum_below f n)
sum_below_ℤ-pos f zero = refl
sum_below_ℤ-pos f (suc n) = omega (arith, ints, sum_below_ℤ-pos f n)

-- a sum of differences
pub sum_below_ℤ--ℤ : (f g : ℕ → ℤ) (n : ℕ) → sum_below_ℤ (λ k. f k -ℤ g k) n ≡ sum_below_ℤ f n -ℤ sum_below_ℤ g n
sum_below_ℤ--ℤ f g zero = refl
sum_below_ℤ--ℤ f g (suc n) = omega (arith, ints, sum_below_ℤ--ℤ f g n)

pub sum_below_ℤ-of_differences : (f g : ℕ → ℕ) (n : ℕ) → sum_below_ℤ (λ k. pos (f k) -ℤ pos (g k)) n ≡ pos (sum_below f n) -ℤ pos (sum_below g n)
sum_below_ℤ-of_differences f g n = sum_below_ℤ--ℤ (λ k. pos (f k)) (λ k. pos (g k)) n ∙ omega (arith, ints, sum_below_ℤ-pos f n, sum_below_ℤ-pos g n)
