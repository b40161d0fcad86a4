-- The least scale that makes right sides whole.
use Rattle.std.proofs.Common.{◌≡◌, ℕ, zero, suc, ◌*◌, ◌/◌, ◌<◌, ◌≤◌, Bool, true, false, cond, ltb, List, get_or, ℤ, pos, negsuc, ◌*ℤ◌, ◌<ℤ◌, ◌≤ℤ◌, unsigned_abs, refl, sym, ◌∙◌, ap, subst, inl, inr, arith}
use Prim.Native.Nat.{◌∣◌}
use native.Mathlib.Nat.{dvd-mul_left, dvd_refl, dvd_trans, mul-div_cancel'}
use Rattle.std.proofs.lemmas.Bool.{cases_lt}
use Rattle.std.proofs.lemmas.Bool.Decides.{nat_tests}
use Rattle.std.proofs.lemmas.Int.{ints}
use Rattle.sums.specs.Divisors.{gcd}
use Rattle.sums.proofs.Divisors.{gcd_is}
use Rattle.sums.proofs.Naturals.{positive_times, zero_at_most}
use Rattle.sums.proofs.Sizes.{size_above}
use Rattle.frac_row.specs.declared.row.FracRow.{FracRow}
use Rattle.row_store.specs.Table.{right_side, row_at}
use Rattle.simplex_frac.specs.dual_lift.Parts.{part_of}
use Rattle.simplex_frac.specs.dual_lift.Scales.{lcm, lowest_den, scale_below}

-- ---- quotients
-- a positive number over a divisor of it is positive
positive_quotient : (a d : ℕ) → 0 < a → d ∣ a → 0 < a / d
positive_quotient a d some h = from_product d (a / d) a (mul-div_cancel' d h) some
  where
    from_product : (d q a : ℕ) → d * q ≡ a → 0 < a → 0 < q
    from_product d zero a e some = absurd (omega arith)
    from_product d (suc q) a e some = omega arith

pub lcm_positive : (a b : ℕ) → 0 < a → 0 < b → 0 < lcm a b
unfolding lcm
lcm_positive a b p q = positive_times (a / gcd a b) b (positive_quotient a (gcd a b) p (gcd_is a b).0) q

pub lcm_second : (a b : ℕ) → b ∣ lcm a b
unfolding lcm
lcm_second a b = dvd-mul_left b (a / gcd a b)

pub lcm_first : (a b : ℕ) → a ∣ lcm a b
unfolding lcm
lcm_first a b =
    let g = gcd a b in
    let one = mul-div_cancel' g (gcd_is a b).0 in
    let two = mul-div_cancel' g (gcd_is a b).1 in
    subst (λ n. a ∣ n) (product (a / g) g (b / g) a b one two) (dvd-mul_left a (b / g))
  where
    product : (x g y a b : ℕ) → g * x ≡ a → g * y ≡ b → y * a ≡ x * b
    product x g y a b e f = ap (λ n. y * n) (sym e) ∙ omega arith ∙ ap (λ n. x * n) f

-- ---- the denominator of a line

pub lowest_den_positive : (table : List FracRow) (line : ℕ) → pos 0 <ℤ (row_at table line).den → 0 < lowest_den table line
unfolding lowest_den
lowest_den_positive table line some =
    positive_quotient (unsigned_abs (row_at table line).den) (gcd (unsigned_abs (right_side table line)) (unsigned_abs (row_at table line).den))
    (size_above (row_at table line).den some) (gcd_is (unsigned_abs (right_side table line)) (unsigned_abs (row_at table line).den)).1

-- the denominators of so many lines are above 0
pub record HaveDens (table : List FracRow) (n : ℕ) : Type 0 where
  pub each : (line : ℕ) → line < n → pos 0 <ℤ (row_at table line).den

pub fewer_dens : (table : List FracRow) (n : ℕ) → HaveDens table (suc n) → HaveDens table n
fewer_dens table n dens = record { each = λ line less. dens.each line (omega arith) }

pick : (b : Bool) (P : ℕ → Type 0) (x y : ℕ) → (b ≡ true → P x) → P y → P (cond b x y)
pick true P x y p q = p refl
pick false P x y p q = q

pub scale_positive : (table : List FracRow) (basis : List ℕ) (columns n : ℕ) → HaveDens table n → 0 < scale_below table basis columns n
scale_positive table basis columns zero dens = omega arith
scale_positive table basis columns (suc n) dens =
    let before = scale_positive table basis columns n (fewer_dens table n dens) in
    pick (ltb (get_or basis n 0) columns) (λ x. 0 < x) (lcm (scale_below table basis columns n) (lowest_den table n)) (scale_below table basis columns n)
    (λ _. lcm_positive (scale_below table basis columns n) (lowest_den table n) before (lowest_den_positive table n (dens.each n (omega arith)))) before

-- the scale of fewer lines divides that of more
pub scale_grows : (table : List FracRow) (basis : List ℕ) (columns k n : ℕ) → k ≤ n → scale_below table basis columns k ∣ scale_below table basis columns n
scale_grows table basis columns k zero order = subst (λ j. scale_below table basis columns j ∣ 1) (zero_at_most k order) (dvd_refl 1)
scale_grows table basis columns k (suc n) order = elim (cases_lt k (suc n)) [
  | inl less ↦
      pick (ltb (get_or basis n 0) columns) (λ x. scale_below table basis columns k ∣ x) (lcm (scale_below table basis columns n) (lowest_den table n)) (scale_below table basis columns n)
      (λ _. dvd_trans _ (scale_grows table basis columns k n (omega arith)) (lcm_first (scale_below table basis columns n) (lowest_den table n)))
      (scale_grows table basis columns k n (omega arith))
  | inr same ↦ let e : suc n ≡ k = omega arith in subst (λ j. scale_below table basis columns j ∣ scale_below table basis columns (suc n)) e (dvd_refl (scale_below table basis columns (suc n)))
]

-- so each of their denominators divides it
pub scale_has : (table : List FracRow) (basis : List ℕ) (columns n line : ℕ) → line < n → get_or basis line 0 < columns → lowest_den table line ∣ scale_below table basis columns n
scale_has table basis columns n line less of_column =
    dvd_trans _ (here (ltb (get_or basis line 0) columns) (test (get_or basis line 0) columns of_column)) (scale_grows table basis columns (suc line) n (omega arith))
  where
    test : (m n : ℕ) → m < n → ltb m n ≡ true
    test m n h = grind (arith, nat_tests)

    here : (b : Bool) → b ≡ true → lowest_den table line ∣ cond b (lcm (scale_below table basis columns line) (lowest_den table line)) (scale_below table basis columns line)
    here true e = lcm_second (scale_below table basis columns line) (lowest_den table line)
    here false e = cc

-- ---- the parts of a line
pub part_is : (table : List FracRow) (scale line : ℕ) → pos 0 <ℤ (row_at table line).den → lowest_den table line ∣ scale → part_of table scale line * unsigned_abs (row_at table line).den ≡ unsigned_abs (right_side table line) * scale
unfolding part_of lowest_den
part_is table scale line some divides =
    let side = unsigned_abs (right_side table line) in
    let den = unsigned_abs (row_at table line).den in
    let g = gcd side den in
    let one = mul-div_cancel' g (gcd_is side den).0 in
    let two = mul-div_cancel' g (gcd_is side den).1 in
    let three = mul-div_cancel' (den / g) divides in
    product (side / g) (scale / (den / g)) g (den / g) side den scale one two three
  where
    product : (x y g d side den scale : ℕ) → g * x ≡ side → g * d ≡ den → d * y ≡ scale → x * y * den ≡ side * scale
    product x y g d side den scale e f h = ap (λ n. x * y * n) (sym f) ∙ omega arith ∙ ap (λ n. g * x * n) h ∙ ap (λ n. n * scale) e

-- .. with their signs
pub signed_part : (w scale : ℕ) (d r : ℤ) → w * unsigned_abs d ≡ unsigned_abs r * scale → pos 0 <ℤ d → pos 0 ≤ℤ r → (pos w *ℤ d) ≡ (r *ℤ pos scale)
signed_part w scale (pos d) (pos r) e some no_less = ap pos e
signed_part w scale (pos d) (negsuc r) e some no_less = absurd (omega (arith, ints))
signed_part w scale (negsuc d) r e some no_less = absurd (omega (arith, ints))
