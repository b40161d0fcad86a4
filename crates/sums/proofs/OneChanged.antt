-- Sums and counts of which one term changes.
use Rattle.std.proofs.Common.{◌≡◌, ◌≢◌, ℕ, zero, suc, ◌+◌, ◌<◌, Bool, true, false, if◌then◌else◌, refl, inl, inr, arith}
use Rattle.std.proofs.lemmas.Bool.{cases_lt}
use Rattle.sums.specs.Below.{sum_below, count_below}
use Rattle.sums.proofs.Sums.{sum_below-agree}

-- two functions agree below a bound but for one place
pub record AgreeBut (f g : ℕ → ℕ) (place n : ℕ) : Type 0 where
  pub each : (k : ℕ) → k < n → k ≢ place → f k ≡ g k

-- what one term is more, the sum is more
pub sum_below-more : (f g : ℕ → ℕ) (n place more : ℕ) → place < n → f place ≡ g place + more → AgreeBut f g place n → sum_below f n ≡ sum_below g n + more
sum_below-more f g zero place more within here others = absurd (omega arith)
sum_below-more f g (suc n) place more within here others = elim (cases_lt place n) [
  | inl earlier ↦
      let last : f n ≡ g n = others.each n (omega arith) (omega arith) in
      omega (arith, sum_below-more f g n place more earlier here (record { each = λ k below other. others.each k (omega arith) other }), last)
  | inr later ↦
      let last : place ≡ n = omega arith in
      let at_last : f n ≡ g n + more = rw last at here in
      omega (arith, sum_below-agree f g n (record { each = λ k below. others.each k (omega arith) (omega arith) }), at_last)
]

as_number : (b c : Bool) → b ≡ c → ◌≡◌ {A = ℕ} (if b then 1 else 0) (if c then 1 else 0)
as_number b c e = rw e

one_passes : (b c : Bool) → b ≡ true → c ≡ false → ◌≡◌ {A = ℕ} (if b then 1 else 0) ((if c then 1 else 0) + 1)
one_passes true false e f = refl
one_passes true true e f = cc
one_passes false c e f = cc

-- a number that passes no longer
pub count_below-fewer : (p q : ℕ → Bool) (n place : ℕ) → place < n → p place ≡ true → q place ≡ false → ((k : ℕ) → k < n → k ≢ place → p k ≡ q k) → count_below p n ≡ count_below q n + 1
count_below-fewer p q n place within passed passes others =
    sum_below-more (λ k. if p k then 1 else 0) (λ k. if q k then 1 else 0) n place 1 within
    (one_passes (p place) (q place) passed passes)
    (record { each = λ k below other. as_number (p k) (q k) (others k below other) })
