-- The laws of maxima below a bound.
use Rattle.std.proofs.Common.{◌≡◌, ℕ, zero, suc, ◌<◌, ◌≤◌, max, refl, inl, inr, arith}
use Rattle.std.proofs.lemmas.Bool.{cases_lt}
use Rattle.sums.specs.Below.{max_below}
use Rattle.sums.proofs.Sums.{AgreeBelow, NoMoreBelow}

-- no term is above the maximum
pub max_below-upper : (f : ℕ → ℕ) (n k : ℕ) → k < n → f k ≤ max_below f n
unfolding max_below
max_below-upper f zero k below = absurd (omega arith)
max_below-upper f (suc n) k below = elim (cases_lt k n) [
  | inl before ↦ omega (arith, max_below-upper f n k before)
  | inr last ↦ let same : k ≡ n = omega arith in rw same (omega arith)
]

-- a bound of the terms is a bound of their maximum
pub max_below-least : (f : ℕ → ℕ) (most n : ℕ) → NoMoreBelow f (λ k. most) n → max_below f n ≤ most
unfolding max_below
max_below-least f most zero less = omega arith
max_below-least f most (suc n) less =
    let front = max_below-least f most n (record { each = λ k below. less.each k (omega arith) }) in
    omega (arith, front, less.each n (omega arith))

pub max_below-agree : (f g : ℕ → ℕ) (n : ℕ) → AgreeBelow f g n → max_below f n ≡ max_below g n
unfolding max_below
max_below-agree f g zero same = refl
max_below-agree f g (suc n) same =
    let front = max_below-agree f g n (record { each = λ k below. same.each k (omega arith) }) in
    omega (arith, front, same.each n (omega arith))

pub max_below-zero : (f : ℕ → ℕ) → max_below f 0 ≡ 0
unfolding max_below
max_below-zero f = refl

pub max_below-suc : (f : ℕ → ℕ) (n : ℕ) → max_below f (suc n) ≡ max (max_below f n) (f n)
unfolding max_below
max_below-suc f n = refl

-- one of them is the maximum
pub max_below-attained : (f : ℕ → ℕ) (n : ℕ) → 0 < n → (k : ℕ) × (k < n) × (f k ≡ max_below f n)
unfolding max_below
max_below-attained f zero some = absurd (omega arith)
max_below-attained f (suc zero) some = (0, omega arith, omega arith)
max_below-attained f (suc (suc n)) some = elim (cases_lt (max_below f (suc n)) (f (suc n))) [
  | inl less ↦ (suc n, omega arith, omega arith)
  | inr more ↦ let found = max_below-attained f (suc n) (omega arith) in (found.0, omega (arith, found.1), omega (arith, found.2))
]
