-- The greatest common divisor.
use Rattle.std.specs.Prelude.{ℕ, zero, suc, ◌+◌, ◌%◌, ◌==◌, ◌&&◌, if◌then◌else◌}

-- the greatest number up to n that divides both a and b, and 0 where there is none
unfoldable pub greatest_divisor : ℕ → ℕ → ℕ → ℕ
greatest_divisor a b zero = 0
greatest_divisor a b (suc n) =
    if (a % suc n == 0) && (b % suc n == 0) then suc n else greatest_divisor a b n

-- the greatest number that divides both a and b, and 0 for two zeros
unfoldable pub gcd : ℕ → ℕ → ℕ
gcd a b = greatest_divisor a b (a + b)

-- the greatest common divisor of d and of f 0, f 1, .. up to and without f n
abbrev pub gcd_below : ℕ → (ℕ → ℕ) → ℕ → ℕ
gcd_below d f zero = d
gcd_below d f (suc n) = gcd (gcd_below d f n) (f n)
