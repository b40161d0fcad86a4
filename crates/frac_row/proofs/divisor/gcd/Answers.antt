use Rattle.std.proofs.Common.{ℕ, ◌≡◌, ◌≤◌, ◌-◌, ◌^◌, arith, sym}
use Rattle.std.proofs.lemmas.Int.{ints, to_z-of_z}
use Rattle.sums.specs.Divisors as divisors
use Rattle.sums.proofs.Divisors.{gcd_at_most}
use Rattle.frac_row.proofs.divisor.gcd.Goals as goal

same_gcd : (a b x y g : ℕ) → x ≡ a → y ≡ b → g ≡ divisors.gcd x y → g ≡ divisors.gcd a b
same_gcd a b x y g p q e = rw (sym p, sym q) e

bounded : (a b g : ℕ) → g ≡ divisors.gcd a b → a ≤ 2 ^ 127 - 1 → b ≤ 2 ^ 127 - 1 → g ≤ 2 ^ 127 - 1
bounded a b g e p q = rw e (gcd_at_most a b _ p q)

pub overflow_cast-result : goal.overflow_cast-result
overflow_cast-result c =
    let fa = c.ranges.a in
    let fb = c.ranges.b in
    let va = simp to_z-of_z at c.unsigned_abs.ensures.value in
    let vb = simp to_z-of_z at c.unsigned_abs-2.ensures.value in
    omega (arith, ints, bounded _ _ _ (same_gcd _ _ _ _ _ va vb c.gcd_of_sizes.ensures) c.requires.first c.requires.second)

pub returns : goal.returns
returns c =
    let fa = c.ranges.a in
    let fb = c.ranges.b in
    let va = simp to_z-of_z at c.unsigned_abs.ensures.value in
    let vb = simp to_z-of_z at c.unsigned_abs-2.ensures.value in
    let same = same_gcd _ _ _ _ _ va vb c.gcd_of_sizes.ensures in
    omega (arith, ints, same, bounded _ _ _ same c.requires.first c.requires.second)
