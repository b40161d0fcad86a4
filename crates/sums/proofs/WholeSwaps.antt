-- Sums of sums of whole numbers.
use Rattle.std.proofs.Common.{◌≡◌, ℕ, zero, suc, ◌<◌, ◌≤◌, Bool, true, false, if◌then◌else◌, ◌==◌, ◌&&◌, ℤ, pos, ◌+ℤ◌, ◌*ℤ◌, refl, sym, ◌∙◌, ap, subst, inl, inr, arith}
use Rattle.std.proofs.lemmas.Bool.{cases_lt}
use Rattle.std.proofs.lemmas.Bool.Decides.{nat_tests}
use Rattle.std.proofs.lemmas.Int.{ints}
use lib.IntN.{zero-*ℤ}
use Rattle.sums.specs.Below.{sum_below, sum_below_ℤ}
use Rattle.sums.proofs.Integers.{+ℤ-*ℤ}
use Rattle.sums.proofs.WholeSums.{sum_below_ℤ-same}

pub sum_below_ℤ-zero : (n : ℕ) → sum_below_ℤ (λ k. pos 0) n ≡ pos 0
sum_below_ℤ-zero zero = refl
sum_below_ℤ-zero (suc n) = omega (arith, ints, sum_below_ℤ-zero n)

pub sum_below_ℤ-+ℤ : (f g : ℕ → ℤ) (n : ℕ) → sum_below_ℤ (λ k. f k +ℤ g k) n ≡ sum_below_ℤ f n +ℤ sum_below_ℤ g n
sum_below_ℤ-+ℤ f g zero = refl
sum_below_ℤ-+ℤ f g (suc n) = omega (arith, ints, sum_below_ℤ-+ℤ f g n)

-- a sum of sums may be taken in either order
pub sum_below_ℤ-swap : (f : ℕ → ℕ → ℤ) (m n : ℕ) → sum_below_ℤ (λ i. sum_below_ℤ (f i) m) n ≡ sum_below_ℤ (λ j. sum_below_ℤ (λ i. f i j) n) m
sum_below_ℤ-swap f m zero = sym (sum_below_ℤ-zero m)
sum_below_ℤ-swap f m (suc n) =
    let added = sum_below_ℤ-+ℤ (λ j. sum_below_ℤ (λ i. f i j) n) (f n) m in
    omega (arith, ints, sum_below_ℤ-swap f m n, added)

-- a sum of counts times a number
pub sum_below-times : (f : ℕ → ℕ) (z : ℤ) (n : ℕ) → sum_below_ℤ (λ k. pos (f k) *ℤ z) n ≡ pos (sum_below f n) *ℤ z
sum_below-times f z zero = sym (zero-*ℤ z)
sum_below-times f z (suc n) = ap (λ x. x +ℤ (pos (f n) *ℤ z)) (sum_below-times f z n) ∙ sym (+ℤ-*ℤ (pos (sum_below f n)) (pos (f n)) z)

-- a term that stands where a test passes
abbrev pub where_true : Bool → ℤ → ℤ
where_true b z = if b then z else pos 0

at_another : (place k : ℕ) (z : ℤ) → k < place → where_true (place == k) z ≡ pos 0
at_another place k z less = grind (arith, nat_tests)

at_place : (place : ℕ) (z : ℤ) → where_true (place == place) z ≡ z
at_place place z = grind (arith, nat_tests)

after_place : (place k : ℕ) (z : ℤ) → place < k → where_true (place == k) z ≡ pos 0
after_place place k z less = grind (arith, nat_tests)

sum_below_ℤ-none : (place : ℕ) (value : ℕ → ℤ) (n : ℕ) → n ≤ place → sum_below_ℤ (λ k. where_true (place == k) (value k)) n ≡ pos 0
sum_below_ℤ-none place value n past =
    sum_below_ℤ-same (λ k. where_true (place == k) (value k)) (λ k. pos 0) n (λ k lt. at_another place k (value k) (omega arith)) ∙ sum_below_ℤ-zero n

-- a term that stands at one place alone
pub sum_below_ℤ-one : (place : ℕ) (value : ℕ → ℤ) (n : ℕ) → place < n → sum_below_ℤ (λ k. where_true (place == k) (value k)) n ≡ value place
sum_below_ℤ-one place value zero within = absurd (omega arith)
sum_below_ℤ-one place value (suc n) within = elim (cases_lt place n) [
  | inl before ↦ omega (arith, ints, sum_below_ℤ-one place value n before, after_place place n (value n) before)
  | inr last ↦ omega (arith, ints, sum_below_ℤ-none place value n last, here (omega arith))
]
  where
    here : place ≡ n → where_true (place == n) (value n) ≡ value place
    here same = subst (λ k. where_true (place == k) (value k) ≡ value place) same (at_place place (value place))

with_true : (b c : Bool) (z : ℤ) → c ≡ true → where_true (b && c) z ≡ where_true b z
with_true true true z e = refl
with_true false c z e = refl
with_true true false z e = cc

-- each leg's place is one of the places
pub record AreWithin (place : ℕ → ℕ) (places legs : ℕ) : Type 0 where
  pub each : (l : ℕ) → l < legs → place l < places

-- what is added at the places, one by one, is added once for each leg, at its own place
pub over_places : (place : ℕ → ℕ) (test : ℕ → Bool) (value : ℕ → ℕ → ℤ) (places legs : ℕ) → AreWithin place places legs → ((l : ℕ) → l < legs → test l ≡ true)
    → sum_below_ℤ (λ s. sum_below_ℤ (λ l. where_true ((place l == s) && test l) (value l s)) legs) places ≡ sum_below_ℤ (λ l. value l (place l)) legs
over_places place test value places legs known passes =
    sum_below_ℤ-swap (λ s l. where_true ((place l == s) && test l) (value l s)) legs places
    ∙ sum_below_ℤ-same (λ l. sum_below_ℤ (λ s. where_true ((place l == s) && test l) (value l s)) places) (λ l. value l (place l)) legs (λ l below.
    sum_below_ℤ-same (λ s. where_true ((place l == s) && test l) (value l s)) (λ s. where_true (place l == s) (value l s)) places (λ s lt. with_true (place l == s) (test l) (value l s) (passes l below))
    ∙ sum_below_ℤ-one (place l) (value l) places (known.each l below))
