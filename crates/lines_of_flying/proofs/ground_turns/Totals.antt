-- Laws of sums, counts and greatest terms below a bound.
use Rattle.std.proofs.Common.{◌≡◌, ap, sym, ◌≢◌, ◌||◌, ℕ, zero, suc, ◌+◌, ◌<◌, Bool, true, false, if◌then◌else◌, ◌==◌, ◌&&◌, refl, ◌∙◌, inl, inr, arith}
use Rattle.std.proofs.lemmas.Bool.{cases_lt, eqb-false, eqb-true}
use Rattle.std.proofs.lemmas.Bool.Decides.{nat_tests}
use Rattle.sums.specs.Below.{sum_below, count_below, max_below}
use Rattle.sums.proofs.Sums.{sum_below-add, sum_below-agree, sum_below-one, sum_below-swap, sum_below-zero}
pub use Rattle.sums.proofs.Terms.{some_counted}
use Rattle.lines_of_flying.proofs.ground_turns.Rounds.{bit}

-- a maximum above 0 is a term
pub some_greatest : (f : ℕ → ℕ) (n : ℕ) → 0 < max_below f n → (k : ℕ) × (k < n) × (f k ≡ max_below f n)
unfolding max_below
some_greatest f zero h = absurd (omega arith)
some_greatest f (suc n) h = elim (cases_lt (max_below f n) (f n)) [
  | inl greater ↦ (n, omega arith, omega arith)
  | inr no_less ↦ let found = some_greatest f n (omega arith) in (found.0, omega (arith, found.1), omega (arith, found.2))
]

-- a test that counts at one place alone
one_place : (place places : ℕ) (b : Bool) → place < places → count_below (λ s. (place == s) && b) places ≡ bit b
one_place place places true within =
    sum_below-agree (λ s. bit ((place == s) && true)) (λ s. if place == s then 1 else 0) places (record { each = λ s below. grind (arith, nat_tests) })
    ∙ sum_below-one place 1 places within
one_place place places false within =
    sum_below-agree (λ s. bit ((place == s) && false)) (λ s. 0) places (record { each = λ s below. grind (arith, nat_tests) }) ∙ sum_below-zero places

-- what is counted at the places, one by one, is counted once for each number
pub over_places : (place : ℕ → ℕ) (test : ℕ → Bool) (places count : ℕ) → ((k : ℕ) → k < count → place k < places)
    → sum_below (λ s. count_below (λ k. (place k == s) && test k) count) places ≡ count_below test count
over_places place test places count within =
    sum_below-swap (λ s k. bit ((place k == s) && test k)) count places
    ∙ sum_below-agree _ (λ k. bit (test k)) count (record { each = λ k lt. one_place (place k) places (test k) (within k lt) })

-- a function without its values at two places
without : ℕ → ℕ → (ℕ → ℕ) → ℕ → ℕ
without i j f k = if (i == k) || (j == k) then 0 else f k

at_two : (f : ℕ → ℕ) (i j k : ℕ) → i ≢ j → f k ≡ without i j f k + ((if i == k then f i else 0) + (if j == k then f j else 0))
unfolding without
at_two f i j k differ = by_tests (i == k) (j == k) (λ e. ap f (eqb-true i k e)) (λ e. ap f (eqb-true j k e)) (λ e g. differ (eqb-true i k e ∙ sym (eqb-true j k g)))
  where
    by_tests : (p q : Bool) → (p ≡ true → f i ≡ f k) → (q ≡ true → f j ≡ f k) → (p ≡ true → q ≡ true → ⊥)
        → f k ≡ (if p || q then 0 else f k) + ((if p then f i else 0) + (if q then f j else 0))
    by_tests true true h g both = absurd (both refl refl)
    by_tests true false h g both = let e = h refl in omega (arith, e)
    by_tests false true h g both = let e = g refl in omega (arith, e)
    by_tests false false h g both = omega arith

apart_from_two : (f : ℕ → ℕ) (n i j : ℕ) → i < n → j < n → i ≢ j → sum_below f n ≡ sum_below (without i j f) n + (f i + f j)
apart_from_two f n i j first second differ =
    let same = sum_below-agree f (λ k. without i j f k + ((if i == k then f i else 0) + (if j == k then f j else 0))) n (record { each = λ k lt. at_two f i j k differ }) in
    let parts = sum_below-add (without i j f) (λ k. (if i == k then f i else 0) + (if j == k then f j else 0)) n in
    let two = sum_below-add (λ k. if i == k then f i else 0) (λ k. if j == k then f j else 0) n in
    omega (arith, same, parts, two, sum_below-one i (f i) n first, sum_below-one j (f j) n second)

-- sums whose terms differ at two places alone
pub two_changed : (f g : ℕ → ℕ) (n i j : ℕ) → i < n → j < n → i ≢ j → ((k : ℕ) → k < n → k ≢ i → k ≢ j → f k ≡ g k)
    → sum_below f n + (g i + g j) ≡ sum_below g n + (f i + f j)
unfolding without
two_changed f g n i j first second differ same =
    let rest = sum_below-agree (without i j f) (without i j g) n (record { each = λ k lt. by_tests (i == k) (j == k) k (λ p q. same k lt (λ e. eqb-false i k p (sym e)) (λ e. eqb-false j k q (sym e))) }) in
    omega (arith, rest, apart_from_two f n i j first second differ, apart_from_two g n i j first second differ)
  where
    by_tests : (p q : Bool) (k : ℕ) → (p ≡ false → q ≡ false → f k ≡ g k) → ◌≡◌ {A = ℕ} (if p || q then 0 else f k) (if p || q then 0 else g k)
    by_tests true q k h = refl
    by_tests false true k h = refl
    by_tests false false k h = h refl refl
