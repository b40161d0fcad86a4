-- Sums, counts and maxima over the numbers below a bound.
use Rattle.std.specs.Prelude.{ℕ, zero, suc, ◌+◌, max, Bool, if◌then◌else◌, ℤ, pos, ◌+ℤ◌}

-- f 0 + f 1 + .. up to and without n
abbrev pub sum_below : (ℕ → ℕ) → ℕ → ℕ
sum_below f zero = 0
sum_below f (suc n) = sum_below f n + f n

-- the same of whole numbers
abbrev pub sum_below_ℤ : (ℕ → ℤ) → ℕ → ℤ
sum_below_ℤ f zero = pos 0
sum_below_ℤ f (suc n) = sum_below_ℤ f n +ℤ f n

-- how many numbers below n pass
abbrev pub count_below : (ℕ → Bool) → ℕ → ℕ
count_below p n = sum_below (λ k. if p k then 1 else 0) n

-- the greatest of f 0, f 1, .. up to and without n, and 0 where there is none
unfoldable pub max_below : (ℕ → ℕ) → ℕ → ℕ
max_below f zero = 0
max_below f (suc n) = max (max_below f n) (f n)
