-- Quotients, as calls give them.
use Rattle.std.proofs.Common.{◌≡◌, ℕ, zero, suc, ◌+◌, ◌-◌, ◌*◌, ◌/◌, ◌^◌, ◌<◌, ◌≤◌, true, false, nat_lt, List, ℤ, pos, negsuc, ◌*ℤ◌, ◌-ℤ◌, ◌<ℤ◌, ◌≤ℤ◌, unsigned_abs, refl, sym, ◌∙◌, ap, subst, inl, inr, arith}
use Rattle.std.specs.Prelude.{FitsSigned, int_div}
use mir.Syntax.{w128}
use native.Mathlib.Nat.{div-le_self}
use Rattle.std.proofs.lemmas.Bool.Decides.{nat_tests}
use Rattle.std.proofs.lemmas.Bool.{cases_lt}
use Rattle.std.proofs.Math.Nat.{mul-le-mul_left}
use Rattle.std.proofs.lemmas.Int.{ints}
use Rattle.sums.specs.Divisors.{gcd}
use Rattle.sums.proofs.Divisors.{gcd_positive}
use Rattle.frac_row.specs.Outgrown.{IsWithin, is_outgrown}
use Rattle.frac_row.specs.Ratio.{IsCeiling}
use Rattle.frac_row.specs.declared.row.FracRow.{FracRow}
use Rattle.row_store.specs.Table.{right_side, row_at}
use Rattle.simplex_frac.specs.dual_lift.Duals.{ceiling}
use Rattle.simplex_frac.specs.dual_lift.Parts.{part_of}
use Rattle.simplex_frac.specs.dual_lift.Scales.{lcm, lowest_den}
use Rattle.simplex_frac.proofs.dual_lift.Ceilings.{ceiling_enough, ceiling_least}

pub divisor_some : (a b : ℤ) → pos 0 <ℤ b → pos 0 <ℤ pos (gcd (unsigned_abs a) (unsigned_abs b))
divisor_some a b some = omega (arith, ints, gcd_positive (unsigned_abs a) (unsigned_abs b) (size b some))
  where
    size : (z : ℤ) → pos 0 <ℤ z → 0 < unsigned_abs a + unsigned_abs z
    size z some = omega (arith, ints)

-- a ceiling is the one that is meant
factor_less : (d p q : ℕ) → p * d < q * d → p < q
factor_less d p q less = elim (cases_lt p q) [
  | inl below ↦ below
  | inr not_below ↦ let more = mul-le-mul_left d not_below in absurd (omega (arith, more))
]

no_less : (n d p q : ℕ) → n ≤ q * d → (p - 1) * d < n → p ≤ q
no_less n d zero q above below = omega arith
no_less n d (suc p) q above below =
    let same : suc p - 1 ≡ p = omega arith in
    factor_less d p q (omega (arith, ap (λ k. k * d) same))

one_ceiling : (n d q : ℕ) → 0 < n → 0 < d → n ≤ q * d → (q - 1) * d < n → q ≡ ceiling n d
one_ceiling n d q some above enough least =
    omega (arith, no_less n d q (ceiling n d) (ceiling_enough n d above) least, no_less n d (ceiling n d) q enough (ceiling_least n d above some))

pub ceiling_is : (n d r : ℤ) → pos 0 <ℤ n → pos 0 <ℤ d → IsCeiling n d r → r ≡ pos (ceiling (unsigned_abs n) (unsigned_abs d))
ceiling_is (pos n) (pos d) (pos zero) some above is = absurd (omega (arith, ints, is.enough))
ceiling_is (pos n) (pos d) (pos (suc q)) some above is =
    let one : pos (suc q) -ℤ pos 1 ≡ pos q = omega (arith, ints) in
    let least : (pos q *ℤ pos d) <ℤ pos n = subst (λ z. (z *ℤ pos d) <ℤ pos n) one is.least in
    let same : suc q - 1 ≡ q = omega arith in
    ap pos (one_ceiling n d (suc q) (omega (arith, ints)) (omega (arith, ints)) (omega (arith, ints, is.enough)) (omega (arith, ints, least, ap (λ k. k * d) same)))
ceiling_is (pos n) (pos zero) (negsuc q) some above is = absurd (omega (arith, ints))
ceiling_is (pos n) (pos (suc d)) (negsuc q) some above is = absurd (omega (arith, ints, is.enough))
ceiling_is (pos n) (negsuc d) r some above is = absurd (omega (arith, ints))
ceiling_is (negsuc n) d r some above is = absurd (omega (arith, ints))

-- ---- the least common multiple
pub multiple_is : (scale den : ℤ) → pos 0 <ℤ scale → pos 0 <ℤ den → int_div scale (pos (gcd (unsigned_abs scale) (unsigned_abs den))) *ℤ den ≡ pos (lcm (unsigned_abs scale) (unsigned_abs den))
unfolding lcm
multiple_is (pos s) (pos d) some above = refl
multiple_is (pos s) (negsuc d) some above = absurd (omega (arith, ints))
multiple_is (negsuc s) d some above = absurd (omega (arith, ints))

pub outgrown_is_past : (most n : ℕ) → most < 2 ^ 64 → is_outgrown (pos n) ≡ true → nat_lt most n ≡ true
outgrown_is_past most n small e = grind (arith, nat_tests)

pub not_past : (most n : ℕ) → pos n ≤ℤ pos most → nat_lt most n ≡ false
not_past most n le = let order : n ≤ most = omega (arith, ints) in grind (arith, nat_tests)

pub past : (most n : ℕ) → pos most <ℤ pos n → nat_lt most n ≡ true
past most n less = let order : most < n = omega (arith, ints) in grind (arith, nat_tests)

-- ---- the parts of a line
pub lowest_den_is : (table : List FracRow) (line : ℕ) (d r : ℤ) → d ≡ (row_at table line).den → r ≡ right_side table line → pos 0 <ℤ d → int_div d (pos (gcd (unsigned_abs r) (unsigned_abs d))) ≡ pos (lowest_den table line)
unfolding lowest_den
lowest_den_is table line d r e f some =
    ap (λ z. int_div d (pos (gcd (unsigned_abs z) (unsigned_abs d)))) f ∙ ap (λ z. int_div z (pos (gcd (unsigned_abs (right_side table line)) (unsigned_abs z)))) e
    ∙ sized (row_at table line).den (gcd (unsigned_abs (right_side table line)) (unsigned_abs (row_at table line).den)) (subst (λ z. pos 0 <ℤ z) e some)
  where
    sized : (z : ℤ) (g : ℕ) → pos 0 <ℤ z → int_div z (pos g) ≡ pos (unsigned_abs z / g)
    sized (pos n) g some = refl
    sized (negsuc n) g some = absurd (omega (arith, ints))

pub lowest_den_few : (table : List FracRow) (line : ℕ) → lowest_den table line ≤ unsigned_abs (row_at table line).den
unfolding lowest_den
lowest_den_few table line = div-le_self (unsigned_abs (row_at table line).den) (gcd (unsigned_abs (right_side table line)) (unsigned_abs (row_at table line).den))

pub lowest_den_within : (table : List FracRow) (line : ℕ) → IsWithin (row_at table line).den → IsWithin (pos (lowest_den table line))
lowest_den_within table line within = omega (arith, within, lowest_den_few table line)

pub same_product : (a b x y : ℤ) → a ≡ x → b ≡ y → a *ℤ b ≡ x *ℤ y
same_product a b x y e f = ap (λ z. z *ℤ b) e ∙ ap (λ z. x *ℤ z) f

-- a product that is not outgrown fits
pub small_product : (z : ℤ) (n : ℕ) → z ≡ pos n → IsWithin (pos n) → FitsSigned w128 z
small_product z n is few = subst (λ y. FitsSigned w128 y) (sym is) (omega (arith, ints))

pub part_value : (table : List FracRow) (line : ℕ) (scale r d : ℤ) → r ≡ right_side table line → d ≡ (row_at table line).den → pos 0 ≤ℤ r → pos 0 <ℤ scale
    → (int_div r (pos (gcd (unsigned_abs r) (unsigned_abs d))) *ℤ int_div scale (pos (lowest_den table line))) ≡ pos (part_of table (unsigned_abs scale) line)
unfolding part_of
part_value table line scale r d e f some above =
    ap (λ z. int_div r (pos (gcd (unsigned_abs r) (unsigned_abs z))) *ℤ int_div scale (pos (lowest_den table line))) f
    ∙ ap (λ z. int_div z (pos (gcd (unsigned_abs z) (unsigned_abs (row_at table line).den))) *ℤ int_div scale (pos (lowest_den table line))) e
    ∙ sized (right_side table line) scale (gcd (unsigned_abs (right_side table line)) (unsigned_abs (row_at table line).den)) (lowest_den table line) (subst (λ z. pos 0 ≤ℤ z) e some) above
  where
    sized : (z w : ℤ) (g h : ℕ) → pos 0 ≤ℤ z → pos 0 <ℤ w → (int_div z (pos g) *ℤ int_div w (pos h)) ≡ pos ((unsigned_abs z / g) * (unsigned_abs w / h))
    sized (pos n) (pos m) g h some above = refl
    sized (pos n) (negsuc m) g h some above = absurd (omega (arith, ints))
    sized (negsuc n) w g h some above = absurd (omega (arith, ints))
