-- The greatest common divisor: the search finds the one that Euclid's algorithm finds.
use Rattle.std.proofs.Common.{◌≡◌, ℕ, zero, suc, ◌+◌, ◌%◌, ◌<◌, ◌≤◌, ◌&&◌, Bool, true, false, cond, eqb, refl, sym, ◌∙◌, ap, subst, arith, inl, inr}
use Prim.Native.Nat.{◌∣◌}
use native.Mathlib.Nat.{eq-zero_of_zero-dvd}
use Rattle.std.specs.Int.{IsGcd}
use Rattle.std.proofs.lemmas.Nat.Gcd.{IsGcd-from_zero, IsGcd-from_mod, same_from_IsGcd, le_of_dvd, dvd_refl, dvd_trans, dvd_of_mod-eq-zero, mod-eq-zero_of_dvd}
use Rattle.std.proofs.lemmas.Nat.{mod_below}
use Rattle.std.proofs.lemmas.Bool.{cases_lt}
use Rattle.std.proofs.lemmas.Bool.Decides.{nat_tests}
use Rattle.sums.specs.Divisors.{gcd, greatest_divisor, gcd_below}
use Rattle.sums.proofs.Naturals.{at_most_0}
use Rattle.sums.proofs.Tests.{no_both}

-- some number is the greatest common divisor
euclid : (fuel a b : ℕ) → b ≤ fuel → (g : ℕ) × IsGcd a b g
euclid fuel a zero h = (a, IsGcd-from_zero a zero refl)
euclid zero a (suc b) h = absurd (omega arith)
euclid (suc fuel) a (suc b) h =
    let below : a % suc b < suc b = mod_below a (suc b) (omega arith) in
    let rest : (g : ℕ) × IsGcd (suc b) (a % suc b) g = euclid fuel (suc b) (a % suc b) (omega arith) in
    (rest.0, IsGcd-from_mod a (suc b) rest.0 rest.1)

-- a test that both remainders are 0
no_remainders : (m n : ℕ) → (eqb m 0 && eqb n 0) ≡ true → (m ≡ 0) × (n ≡ 0)
no_remainders m n h = (grind (arith, nat_tests), grind (arith, nat_tests))

both_zero : (m n : ℕ) → m ≡ 0 → n ≡ 0 → (eqb m 0 && eqb n 0) ≡ true
both_zero m n p q = grind (arith, nat_tests)

by_test : (b : Bool) (x y g : ℕ) → (b ≡ true → x ≡ g) → (b ≡ false → y ≡ g) → cond b x y ≡ g
by_test true x y g p q = p refl
by_test false x y g p q = q refl

-- the search from any number that is no less finds it
found : (a b g n : ℕ) → IsGcd a b g → 0 < g → g ≤ n → greatest_divisor a b n ≡ g
unfolding greatest_divisor
found a b g zero h some le = absurd (omega arith)
found a b g (suc n) h some le =
    by_test (eqb (a % suc n) 0 && eqb (b % suc n) 0) (suc n) (greatest_divisor a b n) g
    (λ t.
    let zeros : (a % suc n ≡ 0) × (b % suc n ≡ 0) = no_remainders _ _ t in
    let divides : suc n ∣ g = h.2 (suc n) (dvd_of_mod-eq-zero (suc n) zeros.0) (dvd_of_mod-eq-zero (suc n) zeros.1) in
    let no_more : suc n ≤ g = le_of_dvd some divides in
    omega arith)
    (λ t. found a b g n h some (less g n (λ e. no_both t (subst (λ k. (eqb (a % k) 0 && eqb (b % k) 0) ≡ true) e (both_zero (a % g) (b % g) (mod-eq-zero_of_dvd g h.0) (mod-eq-zero_of_dvd g h.1)))) le))
  where
    less : (g n : ℕ) → (g ≡ suc n → ⊥) → g ≤ suc n → g ≤ n
    less g n ne le = omega arith

-- a common divisor of two numbers that are not both 0 is above 0 and no more than their sum
above_zero : (a b g : ℕ) → 0 < a + b → g ∣ a → g ∣ b → 0 < g
above_zero a b (suc g) h p q = omega arith
above_zero a b zero h p q = absurd (omega (arith, eq-zero_of_zero-dvd p, eq-zero_of_zero-dvd q))

at_most_sum : (a b g : ℕ) → 0 < a + b → g ∣ a → g ∣ b → g ≤ a + b
at_most_sum zero zero g h p q = absurd (omega arith)
at_most_sum (suc a) b g h p q = let le : g ≤ suc a = le_of_dvd (omega arith) p in omega arith
at_most_sum zero (suc b) g h p q = let le : g ≤ suc b = le_of_dvd (omega arith) q in omega arith

gcd_found : (a b g : ℕ) → IsGcd a b g → 0 < a + b → gcd a b ≡ g
unfolding gcd
gcd_found a b g h some = found a b g (a + b) h (above_zero a b g some h.0 h.1) (at_most_sum a b g some h.0 h.1)

gcd_by : (a b : ℕ) → 0 < a + b → (g : ℕ) × IsGcd a b g → IsGcd a b (gcd a b)
gcd_by a b some (g, h) = subst (λ k. IsGcd a b k) (sym (gcd_found a b g h some)) h

-- the greatest common divisor divides both numbers, and every common divisor divides it
pub gcd_is : (a b : ℕ) → IsGcd a b (gcd a b)
unfolding gcd greatest_divisor
gcd_is zero zero = IsGcd-from_zero 0 0 refl
gcd_is zero (suc b) = gcd_by zero (suc b) (omega arith) (euclid (suc b) zero (suc b) (omega arith))
gcd_is (suc a) b = gcd_by (suc a) b (omega arith) (euclid b (suc a) b (omega arith))

-- 1 alone divides 1
dvd_one : (g : ℕ) → g ∣ 1 → g ≡ 1
dvd_one zero h = absurd (omega (arith, eq-zero_of_zero-dvd h))
dvd_one (suc g) h = let le : suc g ≤ 1 = le_of_dvd (omega arith) h in omega arith

-- what is a greatest common divisor is the greatest common divisor
pub gcd_from : (a b g : ℕ) → IsGcd a b g → g ≡ gcd a b
gcd_from a b g h = same_from_IsGcd a b g (gcd a b) h (gcd_is a b)

-- one step of Euclid's algorithm
pub gcd-rem : (a b : ℕ) → gcd b (a % b) ≡ gcd a b
gcd-rem a b = gcd_from a b (gcd b (a % b)) (IsGcd-from_mod a b _ (gcd_is b (a % b)))

pub gcd-zero : (a : ℕ) → gcd a 0 ≡ a
gcd-zero a = sym (gcd_from a 0 a (IsGcd-from_zero a 0 refl))

pub gcd-one : (a : ℕ) → gcd 1 a ≡ 1
gcd-one a = dvd_one (gcd 1 a) (gcd_is 1 a).0

pub gcd_positive : (a b : ℕ) → 0 < a + b → 0 < gcd a b
gcd_positive a b some = above_zero a b (gcd a b) some (gcd_is a b).0 (gcd_is a b).1

pub gcd_at_most : (a b m : ℕ) → a ≤ m → b ≤ m → gcd a b ≤ m
unfolding gcd greatest_divisor
gcd_at_most zero zero m p q = omega arith
gcd_at_most (suc a) b m p q = let le : gcd (suc a) b ≤ suc a = le_of_dvd (omega arith) (gcd_is (suc a) b).0 in omega arith
gcd_at_most zero (suc b) m p q = let le : gcd zero (suc b) ≤ suc b = le_of_dvd (omega arith) (gcd_is zero (suc b)).1 in omega arith

-- the greatest common divisor of many divides the first, and each of the others
pub gcd_below_first : (d : ℕ) (f : ℕ → ℕ) (n : ℕ) → gcd_below d f n ∣ d
gcd_below_first d f zero = dvd_refl d
gcd_below_first d f (suc n) = dvd_trans (gcd_below d f (suc n)) (gcd_is (gcd_below d f n) (f n)).0 (gcd_below_first d f n)

pub gcd_below_each : (d : ℕ) (f : ℕ → ℕ) (n k : ℕ) → k < n → gcd_below d f n ∣ f k
gcd_below_each d f zero k h = absurd (omega arith)
gcd_below_each d f (suc n) k h =
    by_place n k (gcd_below d f (suc n)) f (λ e. (gcd_is (gcd_below d f n) (f n)).1) (λ lt. dvd_trans (gcd_below d f (suc n)) (gcd_is (gcd_below d f n) (f n)).0 (gcd_below_each d f n k lt)) h
  where
    by_place : (n k g : ℕ) (f : ℕ → ℕ) → (k ≡ n → g ∣ f n) → (k < n → g ∣ f k) → k < suc n → g ∣ f k
    by_place n k g f p q h =
        elim (cases_lt k n) [ inl lt ↦ q lt | inr le ↦ let e : k ≡ n = omega arith in subst (λ i. g ∣ f i) (sym e) (p e) ]

-- once it is 1 it stays 1
pub gcd_below_one : (d : ℕ) (f : ℕ → ℕ) (k n : ℕ) → gcd_below d f k ≡ 1 → k ≤ n → gcd_below d f n ≡ 1
gcd_below_one d f k zero e le = subst (λ i. gcd_below d f i ≡ 1) (at_most_0 k le) e
gcd_below_one d f k (suc n) e le =
    elim (cases_lt k (suc n)) [
      | inl lt ↦ ap (λ g. gcd g (f n)) (gcd_below_one d f k n e (omega arith)) ∙ gcd-one (f n)
      | inr ge ↦ let same : k ≡ suc n = omega arith in subst (λ i. gcd_below d f i ≡ 1) same e
    ]
