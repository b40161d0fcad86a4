-- How ratios compare by their quotients and rests.
use Rattle.std.proofs.Common.{◌≡◌, ℕ, zero, suc, ◌+◌, ◌-◌, ◌*◌, ◌/◌, ◌%◌, ◌<◌, ◌≤◌, sym, subst, arith}
use Rattle.std.proofs.Math.Nat.{mul-le-mul_right}
use Rattle.std.proofs.lemmas.Nat.{div-add-mod', mod_below}
use Rattle.std.proofs.lemmas.Cmp.{ranked}
use Rattle.std.specs.Cmp.{nat_cmp_is}
use Rattle.std.specs.Ordering.{nat_cmp, MatchOrdering}
use Rattle.std.specs.declared.cmp.Ordering.{Ordering}
use Rattle.std.specs.declared.cmp.Ordering.TheVariants.{Less, Equal, Greater}

-- numbers with a lesser quotient
lesser : (q k r t b d : ℕ) → r < b → 0 < d → (q * b + r) * d < ((suc q + k) * d + t) * b
lesser q k r t b d below some =
    let le : suc r * d ≤ b * d = mul-le-mul_right d below in
    omega (arith, le)

-- numbers of one quotient compare as their rests do
rests : (q r t b d : ℕ) (o : Ordering) → o ≡ nat_cmp (d * r) (b * t) → o ≡ nat_cmp ((q * b + r) * d) ((q * d + t) * b)
rests q r t b d o e = nat_cmp_is _ _ o (shifted o (ranked _ _ o e))
  where
    shifted : (o : Ordering) → MatchOrdering o (d * r < b * t) (d * r ≡ b * t) (b * t < d * r) → MatchOrdering o ((q * b + r) * d < (q * d + t) * b) ((q * b + r) * d ≡ (q * d + t) * b) ((q * d + t) * b < (q * b + r) * d)
    shifted Less h = omega arith
    shifted Equal h = omega arith
    shifted Greater h = omega arith

parts_cmp : (a b c d : ℕ) (o : Ordering) → o ≡ nat_cmp ((a / b * b + a % b) * d) ((c / d * d + c % d) * b) → o ≡ nat_cmp (a * d) (c * b)
parts_cmp a b c d o e = rw (div-add-mod' a b, div-add-mod' c d) at e

-- a lesser quotient makes a lesser ratio
less_by_quotient : (a b c d : ℕ) → 0 < b → 0 < d → a / b < c / d → a * d < c * b
less_by_quotient a b c d p q h =
    let k : ℕ = c / d - suc (a / b) in
    let e : c / d ≡ suc (a / b) + k = omega arith in
    let apart : (a / b * b + a % b) * d < ((suc (a / b) + k) * d + c % d) * b = lesser (a / b) k (a % b) (c % d) b d (mod_below a b p) q in
    let joined : (a / b * b + a % b) * d < (c / d * d + c % d) * b = subst (λ s. (a / b * b + a % b) * d < (s * d + c % d) * b) (sym e) apart in
    rw (div-add-mod' a b, div-add-mod' c d) at joined

pub ratio_less : (a b c d : ℕ) → 0 < b → 0 < d → a / b < c / d → Less ≡ nat_cmp (a * d) (c * b)
ratio_less a b c d p q h = nat_cmp_is _ _ Less (less_by_quotient a b c d p q h)

pub ratio_greater : (a b c d : ℕ) → 0 < b → 0 < d → c / d < a / b → Greater ≡ nat_cmp (a * d) (c * b)
ratio_greater a b c d p q h = nat_cmp_is _ _ Greater (less_by_quotient c d a b q p h)

-- where the quotients agree, the rests decide
pub ratio_by_rests : (a b c d : ℕ) (o : Ordering) → a / b ≡ c / d → o ≡ nat_cmp (d * (a % b)) (b * (c % d)) → o ≡ nat_cmp (a * d) (c * b)
ratio_by_rests a b c d o same e = parts_cmp a b c d o (subst (λ q. o ≡ nat_cmp ((a / b * b + a % b) * d) ((q * d + c % d) * b)) same (rests (a / b) (a % b) (c % d) b d o e))

-- where a rest is 0 too
pub ratio_equal : (a b c d : ℕ) → a / b ≡ c / d → a % b ≡ 0 → c % d ≡ 0 → Equal ≡ nat_cmp (a * d) (c * b)
ratio_equal a b c d same p q = ratio_by_rests a b c d Equal same (nat_cmp_is (d * (a % b)) (b * (c % d)) Equal (rw (p, q) (omega arith)))

above_nothing : (k x y : ℕ) → 0 < x → 0 < y → k * 0 < x * y
above_nothing k (suc x) (suc y) p q = omega arith
above_nothing k zero y p q = absurd (omega arith)
above_nothing k (suc x) zero p q = absurd (omega arith)

pub ratio_greater_rest : (a b c d : ℕ) → 0 < d → a / b ≡ c / d → 0 < a % b → c % d ≡ 0 → Greater ≡ nat_cmp (a * d) (c * b)
ratio_greater_rest a b c d some same p q = ratio_by_rests a b c d Greater same (nat_cmp_is (d * (a % b)) (b * (c % d)) Greater (rw q (above_nothing b d (a % b) some p)))

pub ratio_less_rest : (a b c d : ℕ) → 0 < b → a / b ≡ c / d → a % b ≡ 0 → 0 < c % d → Less ≡ nat_cmp (a * d) (c * b)
ratio_less_rest a b c d some same p q = ratio_by_rests a b c d Less same (nat_cmp_is (d * (a % b)) (b * (c % d)) Less (rw p (above_nothing d b (c % d) some q)))
