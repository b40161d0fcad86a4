-- The order of products and of sums of whole numbers.
use Rattle.std.proofs.Common.{◌≡◌, ℕ, zero, suc, ◌+◌, ◌<◌, ◌≤◌, ℤ, pos, negsuc, ◌+ℤ◌, ◌*ℤ◌, ◌≤ℤ◌, sym, ◌∙◌, ap, arith}
use Rattle.std.proofs.lemmas.Int.{ints}
use lib.IntN.{zero-*ℤ, suc_ℤ-*ℤ, *ℤ_comm}
use Rattle.sums.specs.Below.{sum_below_ℤ}
use Rattle.sums.proofs.Integers.{+ℤ-*ℤ}

-- a factor of at least 0 keeps the order
pub times_le : (n : ℕ) (a b : ℤ) → a ≤ℤ b → (pos n *ℤ a) ≤ℤ (pos n *ℤ b)
times_le zero a b h = omega (arith, ints, zero-*ℤ a, zero-*ℤ b)
times_le (suc n) a b h = omega (arith, ints, times_le n a b h, suc_ℤ-*ℤ (pos n) a, suc_ℤ-*ℤ (pos n) b)

pub factor_le : (c a b : ℤ) → pos 0 ≤ℤ c → a ≤ℤ b → (c *ℤ a) ≤ℤ (c *ℤ b)
factor_le (pos n) a b some h = times_le n a b h
factor_le (negsuc n) a b some h = absurd (omega (arith, ints))

-- more of what is at least 0 is no less
pub more_times : (m n : ℕ) (c : ℤ) → m ≤ n → pos 0 ≤ℤ c → (pos m *ℤ c) ≤ℤ (pos n *ℤ c)
more_times m n c le some = omega (arith, ints, factor_le c (pos m) (pos n) some (omega (arith, ints)), *ℤ_comm c (pos m), *ℤ_comm c (pos n))

-- two counts that sum to what two others do
pub same_times : (a b c d : ℕ) (z : ℤ) → a + b ≡ c + d → (pos a *ℤ z) +ℤ (pos b *ℤ z) ≡ (pos c *ℤ z) +ℤ (pos d *ℤ z)
same_times a b c d z e = sym (+ℤ-*ℤ (pos a) (pos b) z) ∙ ap (λ n. pos n *ℤ z) e ∙ +ℤ-*ℤ (pos c) (pos d) z

-- terms that are no greater have no greater sum
pub sum_below_ℤ-le : (f g : ℕ → ℤ) (n : ℕ) → ((k : ℕ) → k < n → f k ≤ℤ g k) → sum_below_ℤ f n ≤ℤ sum_below_ℤ g n
sum_below_ℤ-le f g zero h = omega (arith, ints)
sum_below_ℤ-le f g (suc n) h = omega (arith, ints, sum_below_ℤ-le f g n (λ k lt. h k (omega arith)), h n (omega arith))
