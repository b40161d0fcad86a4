-- Exact division of whole numbers.
use Rattle.std.proofs.Common.{◌≡◌, ℕ, zero, suc, ◌/◌, ◌≤◌, ℤ, pos, negsuc, ◌*ℤ◌, ◌<ℤ◌, unsigned_abs, refl, ◌∙◌, ap, arith}
use Rattle.std.specs.Prelude.{int_div}
use Rattle.std.proofs.lemmas.Int.{ints}
use Prim.Native.Nat.{◌∣◌}
use native.Mathlib.Nat.{mul-div_cancel', div-le_self}
use lib.IntN.{neg_ℤ}
use Rattle.sums.proofs.Integers.{*ℤ-neg_ℤ}

-- what a divisor divides is the divisor times the quotient
pub *ℤ-int_div : (n : ℤ) (d : ℕ) → d ∣ unsigned_abs n → pos d *ℤ int_div n (pos d) ≡ n
*ℤ-int_div (pos a) d h = ap pos (mul-div_cancel' d h)
*ℤ-int_div (negsuc a) d h = *ℤ-neg_ℤ (pos d) (pos (suc a / d)) ∙ ap (λ k. neg_ℤ (pos k)) (mul-div_cancel' d h)

pub size-neg_ℤ : (n : ℕ) → unsigned_abs (neg_ℤ (pos n)) ≡ n
size-neg_ℤ zero = refl
size-neg_ℤ (suc n) = refl

-- a quotient is no greater in size
pub size-int_div : (n : ℤ) (d : ℕ) → unsigned_abs (int_div n (pos d)) ≤ unsigned_abs n
size-int_div (pos a) d = div-le_self a d
size-int_div (negsuc a) d = let le : suc a / d ≤ suc a = div-le_self (suc a) d in omega (arith, size-neg_ℤ (suc a / d))

-- a factor of a positive number beside one of at least 0
pub positive_factor : (d : ℕ) (x : ℤ) → pos 0 <ℤ (pos d *ℤ x) → pos 0 <ℤ x
positive_factor d (pos zero) h = absurd (omega (arith, ints))
positive_factor d (pos (suc n)) h = omega (arith, ints)
positive_factor zero (negsuc n) h = absurd (omega (arith, ints))
positive_factor (suc d) (negsuc n) h = absurd (omega (arith, ints))
