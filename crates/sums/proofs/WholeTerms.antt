-- Stretches and terms of sums of whole numbers.
use Rattle.std.proofs.Common.{◌≡◌, ℕ, zero, suc, ◌+◌, ◌<◌, ◌==◌, Bool, true, false, ℤ, pos, ◌+ℤ◌, ◌*ℤ◌, ◌≤ℤ◌, refl, sym, ◌∙◌, ap, subst, inl, inr, arith}
use Rattle.std.proofs.lemmas.Bool.{cases_lt}
use Rattle.std.proofs.lemmas.Int.{ints}
use lib.IntN.{neg_ℤ, *ℤ-zero, *ℤ_comm}
use Rattle.sums.specs.Below.{sum_below_ℤ}
use Rattle.sums.proofs.Naturals.{plus_0, plus_suc}
use Rattle.sums.proofs.WholeSums.{sum_below_ℤ-same, *ℤ-sum_below_ℤ}
use Rattle.sums.proofs.WholeSwaps.{where_true, sum_below_ℤ-one, sum_below_ℤ-swap}

-- a sum over one stretch and then another
pub sum_below_ℤ-stretches : (f : ℕ → ℤ) (m n : ℕ) → sum_below_ℤ f (m + n) ≡ sum_below_ℤ f m +ℤ sum_below_ℤ (λ k. f (m + k)) n
sum_below_ℤ-stretches f m zero = ap (sum_below_ℤ f) (plus_0 m) ∙ omega (arith, ints)
sum_below_ℤ-stretches f m (suc n) = ap (sum_below_ℤ f) (plus_suc m n) ∙ omega (arith, ints, sum_below_ℤ-stretches f m n)

-- a sum of terms of at least 0
pub at_least_0 : (f : ℕ → ℤ) (n : ℕ) → ((k : ℕ) → k < n → pos 0 ≤ℤ f k) → pos 0 ≤ℤ sum_below_ℤ f n
at_least_0 f zero h = omega (arith, ints)
at_least_0 f (suc n) h =
    let before : pos 0 ≤ℤ sum_below_ℤ f n = at_least_0 f n (λ k lt. h k (omega arith)) in
    omega (arith, ints, h n (omega arith))

-- such a term is no more than the sum
pub term_within : (f : ℕ → ℤ) (n k : ℕ) → k < n → ((j : ℕ) → j < n → pos 0 ≤ℤ f j) → f k ≤ℤ sum_below_ℤ f n
term_within f zero k below some = absurd (omega arith)
term_within f (suc n) k below some = elim (cases_lt k n) [
  | inl less ↦ omega (arith, ints, term_within f n k less (λ j within. some j (omega arith)), some n (omega arith))
  | inr last ↦
      let same : n ≡ k = omega arith in
      subst (λ j. f j ≤ℤ sum_below_ℤ f (suc n)) same (omega (arith, ints, at_least_0 f n (λ j within. some j (omega arith))))
]

-- where it is 0, each of them is
pub each_is_0 : (f : ℕ → ℤ) (n k : ℕ) → ((k : ℕ) → k < n → pos 0 ≤ℤ f k) → sum_below_ℤ f n ≡ pos 0 → k < n → f k ≡ pos 0
each_is_0 f zero k h e lt = absurd (omega arith)
each_is_0 f (suc n) k h e lt =
    let before : pos 0 ≤ℤ sum_below_ℤ f n = at_least_0 f n (λ j less. h j (omega arith)) in
    let last : pos 0 ≤ℤ f n = h n (omega arith) in
    elim (cases_lt k n) [
      | inl less ↦ each_is_0 f n k (λ j below. h j (omega arith)) (first (sum_below_ℤ f n) (f n) before last e) less
      | inr ge ↦ let same : k ≡ n = omega arith in subst (λ i. f i ≡ pos 0) (sym same) (second (sum_below_ℤ f n) (f n) before last e)
    ]
  where
    first : (a b : ℤ) → pos 0 ≤ℤ a → pos 0 ≤ℤ b → a +ℤ b ≡ pos 0 → a ≡ pos 0
    first a b p q e = omega (arith, ints)

    second : (a b : ℤ) → pos 0 ≤ℤ a → pos 0 ≤ℤ b → a +ℤ b ≡ pos 0 → b ≡ pos 0
    second a b p q e = omega (arith, ints)

-- a factor of a term that stands where a test passes
pub *ℤ-where_true : (c : ℤ) (b : Bool) (z : ℤ) → c *ℤ where_true b z ≡ where_true b (c *ℤ z)
*ℤ-where_true c true z = refl
*ℤ-where_true c false z = *ℤ-zero c

pub where_true-at_least_0 : (b : Bool) (z : ℤ) → pos 0 ≤ℤ z → pos 0 ≤ℤ where_true b z
where_true-at_least_0 true z h = h
where_true-at_least_0 false z h = omega (arith, ints)

-- what stands at a place in all, where each number has a place and a value
unfoldable pub at_place : (ℕ → ℕ) → (ℕ → ℤ) → ℕ → ℕ → ℤ
at_place place value count here = sum_below_ℤ (λ k. where_true (place k == here) (value k)) count

pub at_place-at_least_0 : (place : ℕ → ℕ) (value : ℕ → ℤ) (count here : ℕ) → ((k : ℕ) → k < count → pos 0 ≤ℤ value k) → pos 0 ≤ℤ at_place place value count here
unfolding at_place
at_place-at_least_0 place value count here h =
    at_least_0 (λ k. where_true (place k == here) (value k)) count (λ k lt. where_true-at_least_0 (place k == here) (value k) (h k lt))

-- a sum over the places is a sum over the numbers, each at its own place
pub over_each : (f : ℕ → ℤ) (place : ℕ → ℕ) (value : ℕ → ℤ) (places count : ℕ) → ((k : ℕ) → k < count → place k < places) → sum_below_ℤ (λ s. f s *ℤ at_place place value count s) places ≡ sum_below_ℤ (λ k. f (place k) *ℤ value k) count
unfolding at_place
over_each f place value places count known =
    sum_below_ℤ-same (λ s. f s *ℤ sum_below_ℤ (λ k. where_true (place k == s) (value k)) count) (λ s. sum_below_ℤ (λ k. where_true (place k == s) (f s *ℤ value k)) count) places
    (λ s below. *ℤ-sum_below_ℤ (f s) (λ k. where_true (place k == s) (value k)) count ∙ sum_below_ℤ-same _ _ count (λ k lt. *ℤ-where_true (f s) (place k == s) (value k)))
    ∙ sum_below_ℤ-swap (λ s k. where_true (place k == s) (f s *ℤ value k)) count places
    ∙ sum_below_ℤ-same _ (λ k. f (place k) *ℤ value k) count (λ k lt. sum_below_ℤ-one (place k) (λ s. f s *ℤ value k) places (known k lt))

-- a factor after all terms
pub sum_below_ℤ-*ℤ : (f : ℕ → ℤ) (c : ℤ) (n : ℕ) → sum_below_ℤ f n *ℤ c ≡ sum_below_ℤ (λ k. f k *ℤ c) n
sum_below_ℤ-*ℤ f c n =
    *ℤ_comm (sum_below_ℤ f n) c ∙ *ℤ-sum_below_ℤ c f n ∙ sum_below_ℤ-same (λ k. c *ℤ f k) (λ k. f k *ℤ c) n (λ k lt. *ℤ_comm c (f k))

-- terms of the other sign
pub sum_below_ℤ-neg : (f : ℕ → ℤ) (n : ℕ) → sum_below_ℤ (λ k. neg_ℤ (f k)) n ≡ neg_ℤ (sum_below_ℤ f n)
sum_below_ℤ-neg f zero = refl
sum_below_ℤ-neg f (suc n) = omega (arith, ints, sum_below_ℤ-neg f n)
