-- Quotients rounded up, and how often the phase row is added.
use Rattle.std.proofs.Common.{◌≡◌, ℕ, zero, suc, ◌+◌, ◌-◌, ◌*◌, ◌<◌, ◌≤◌, ℤ, pos, negsuc, ◌+ℤ◌, ◌*ℤ◌, ◌<ℤ◌, ◌≤ℤ◌, ap, arith}
use Rattle.std.proofs.lemmas.Int.{ints}
use Rattle.std.proofs.Math.Nat.{mul-le-mul_left}
use Rattle.simplex_frac.specs.dual_lift.Duals.{ceiling, phases_for}

-- the quotient rounded up is enough
pub ceiling_enough : (n d : ℕ) → 0 < d → n ≤ ceiling n d * d
ceiling_enough n d some = omega arith

-- .. and one less is not
one_less : (n d q : ℕ) → 0 < d → 0 < n → d * q ≤ n + (d - 1) → (q - 1) * d < n
one_less n d zero some above le = omega arith
one_less n d (suc q) some above le =
    let same : suc q - 1 ≡ q = omega arith in
    omega (arith, le, ap (λ k. k * d) same)

pub ceiling_least : (n d : ℕ) → 0 < d → 0 < n → (ceiling n d - 1) * d < n
ceiling_least n d some above = let law : d * ceiling n d ≤ n + (d - 1) = omega arith in one_less n d (ceiling n d) some above law

-- where a number is below 0, so many of the other make up for it
pub phases_enough : (c C p P : ℤ) (m : ℕ) → c <ℤ pos 0 → pos 0 <ℤ C → pos 0 <ℤ p → pos 0 <ℤ P → phases_for c C p P ≤ m → pos 0 ≤ℤ ((pos m *ℤ (p *ℤ C)) +ℤ (c *ℤ P))
phases_enough (negsuc c) (pos (suc C)) (pos (suc p)) (pos (suc P)) m below den above other le =
    let enough = ceiling_enough (suc c * suc P) (suc p * suc C) (positive p C) in
    let more = mul-le-mul_left (suc p * suc C) le in
    omega (arith, ints, enough, more)
  where
    positive : (p C : ℕ) → 0 < suc p * suc C
    positive p C = omega arith
phases_enough (pos c) C p P m below den above other le = absurd (omega (arith, ints))
phases_enough (negsuc c) (pos zero) p P m below den above other le = absurd (omega (arith, ints))
phases_enough (negsuc c) (negsuc C) p P m below den above other le = absurd (omega (arith, ints))
phases_enough (negsuc c) (pos (suc C)) (pos zero) P m below den above other le = absurd (omega (arith, ints))
phases_enough (negsuc c) (pos (suc C)) (negsuc p) P m below den above other le = absurd (omega (arith, ints))
phases_enough (negsuc c) (pos (suc C)) (pos (suc p)) (pos zero) m below den above other le = absurd (omega (arith, ints))
phases_enough (negsuc c) (pos (suc C)) (pos (suc p)) (negsuc P) m below den above other le = absurd (omega (arith, ints))
