-- Signs and sizes of single whole numbers, for the crates above.
use Rattle.std.proofs.Common.{◌≡◌, ℕ, ◌<◌, true, false, eqb, int_lt, ℤ, pos, ◌+ℤ◌, ◌-ℤ◌, ◌<ℤ◌, ◌≤ℤ◌, unsigned_abs, refl, arith}
use Rattle.std.proofs.lemmas.Int.{ints}
use lib.IntN.{neg_ℤ}

-- ---- signs
pub above_is_some : (z : ℤ) → pos 0 <ℤ z → pos 0 ≤ℤ z
above_is_some z h = omega (arith, ints)

pub pos_above : (n : ℕ) → 0 < n → pos 0 <ℤ pos n
pos_above n h = omega (arith, ints)

pub opposite_some : (z : ℤ) → z ≤ℤ pos 0 → pos 0 ≤ℤ neg_ℤ z
opposite_some z h = omega (arith, ints)

pub opposite_above : (z : ℤ) → z <ℤ pos 0 → pos 0 <ℤ neg_ℤ z
opposite_above z h = omega (arith, ints)

pub above_is_other : (z : ℤ) → pos 0 <ℤ z → z ≡ pos 0 → ⊥
above_is_other z h e = omega (arith, ints)

pub above_tested : (z : ℤ) → int_lt (pos 0) z ≡ true → pos 0 <ℤ z
above_tested z e = grind (arith, ints)

pub not_above_tested : (z : ℤ) → int_lt (pos 0) z ≡ false → z ≤ℤ pos 0
not_above_tested z e = grind (arith, ints)

-- ---- sizes
pub zero_size : (z : ℤ) → unsigned_abs z ≡ 0 → z ≡ pos 0
zero_size z e = omega (arith, ints)

pub size_of_zero : (z : ℤ) → z ≡ pos 0 → unsigned_abs z ≡ 0
size_of_zero z e = omega (arith, ints)

pub zero_size_tested : (z : ℤ) → z ≡ pos 0 → eqb (unsigned_abs z) 0 ≡ true
zero_size_tested z e = rw e refl

pub size_above : (z : ℤ) → pos 0 <ℤ z → 0 < unsigned_abs z
size_above z h = omega (arith, ints)

pub size_is : (z : ℤ) → pos 0 ≤ℤ z → pos (unsigned_abs z) ≡ z
size_is z h = omega (arith, ints)

-- ---- differences
pub no_difference : (a b : ℤ) → a ≡ b → a -ℤ b ≡ pos 0
no_difference a b e = omega (arith, ints)

pub from_no_difference : (a b : ℤ) → a -ℤ b ≡ pos 0 → a ≡ b
from_no_difference a b e = omega (arith, ints)

pub nothing_added : (a b : ℤ) → b ≡ pos 0 → a ≡ a +ℤ b
nothing_added a b e = omega (arith, ints)
