-- The laws of sums below a bound.
use Rattle.std.proofs.Common.{◌≡◌, ℕ, zero, suc, ◌+◌, ◌*◌, ◌<◌, ◌≤◌, Bool, if◌then◌else◌, ◌==◌, refl, sym, ◌∙◌, inl, inr, arith}
use Rattle.std.proofs.lemmas.Bool.{cases_lt}
use Rattle.std.proofs.lemmas.Bool.Decides.{nat_tests}
use Rattle.sums.specs.Below.{sum_below, count_below}
use Rattle.sums.proofs.NumberTests.{if_at}

-- two functions agree below a bound
pub record AgreeBelow (f g : ℕ → ℕ) (n : ℕ) : Type 0 where
  pub each : (k : ℕ) → k < n → f k ≡ g k

-- one function is nowhere above another below a bound
pub record NoMoreBelow (f g : ℕ → ℕ) (n : ℕ) : Type 0 where
  pub each : (k : ℕ) → k < n → f k ≤ g k

-- equal terms have equal sums
pub sum_below-agree : (f g : ℕ → ℕ) (n : ℕ) → AgreeBelow f g n → sum_below f n ≡ sum_below g n
sum_below-agree f g zero same = refl
sum_below-agree f g (suc n) same =
    let front = sum_below-agree f g n (record { each = λ k below. same.each k (omega arith) }) in
    omega (arith, front, same.each n (omega arith))

-- terms that are no more have no greater sum
pub sum_below-le : (f g : ℕ → ℕ) (n : ℕ) → NoMoreBelow f g n → sum_below f n ≤ sum_below g n
sum_below-le f g zero less = omega arith
sum_below-le f g (suc n) less =
    let front = sum_below-le f g n (record { each = λ k below. less.each k (omega arith) }) in
    omega (arith, front, less.each n (omega arith))

pub sum_below-zero : (n : ℕ) → sum_below (λ k. 0) n ≡ 0
sum_below-zero zero = refl
sum_below-zero (suc n) = omega (arith, sum_below-zero n)

pub sum_below-add : (f g : ℕ → ℕ) (n : ℕ) → sum_below (λ k. f k + g k) n ≡ sum_below f n + sum_below g n
sum_below-add f g zero = refl
sum_below-add f g (suc n) = omega (arith, sum_below-add f g n)

-- a sum of sums may be taken in either order
pub sum_below-swap : (f : ℕ → ℕ → ℕ) (m n : ℕ) → sum_below (λ i. sum_below (f i) m) n ≡ sum_below (λ j. sum_below (λ i. f i j) n) m
sum_below-swap f m zero = sym (sum_below-zero m)
sum_below-swap f m (suc n) =
    let added = sum_below-add (λ j. sum_below (λ i. f i j) n) (f n) m in
    omega (arith, sum_below-swap f m n, added)

sum_below-none : (place value n : ℕ) → n ≤ place → sum_below (λ k. if place == k then value else 0) n ≡ 0
sum_below-none place value zero past = refl
sum_below-none place value (suc n) past =
    let front = sum_below-none place value n (omega arith) in
    grind (arith, nat_tests)

-- a term that stands at one place alone
pub sum_below-one : (place value n : ℕ) → place < n → sum_below (λ k. if place == k then value else 0) n ≡ value
sum_below-one place value zero within = absurd (omega arith)
sum_below-one place value (suc n) within = elim (cases_lt place n) [
  | inl before ↦ let front = sum_below-one place value n before in grind (arith, nat_tests)
  | inr last ↦ let front = sum_below-none place value n last in grind (arith, nat_tests)
]

pub sum_below-at : (place n : ℕ) (f : ℕ → ℕ) → place < n → sum_below (λ k. if place == k then f k else 0) n ≡ f place
sum_below-at place n f within =
    sum_below-agree (λ k. if place == k then f k else 0) (λ k. if place == k then f place else 0) n (record { each = λ k below. if_at place k f })
    ∙ sum_below-one place (f place) n within

-- one for each number
pub sum_below-ones : (n : ℕ) → sum_below (λ k. 1) n ≡ n
sum_below-ones zero = refl
sum_below-ones (suc n) = omega (arith, sum_below-ones n)

-- so many terms, each no more than a bound
pub sum_below-bound : (f : ℕ → ℕ) (most n : ℕ) → NoMoreBelow f (λ k. most) n → sum_below f n ≤ n * most
sum_below-bound f most zero less = omega arith
sum_below-bound f most (suc n) less =
    let front = sum_below-bound f most n (record { each = λ k below. less.each k (omega arith) }) in
    omega (arith, front, less.each n (omega arith))

pub count_below-le : (p : ℕ → Bool) (n : ℕ) → count_below p n ≤ n
count_below-le p zero = omega arith
count_below-le p (suc n) = grind (arith, nat_tests, count_below-le p n)
