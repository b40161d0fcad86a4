-- Bounds of the least worth of a leg's kept pairs.
use Rattle.std.proofs.Common.{◌≡◌, ℕ, zero, suc, ◌<◌, Bool, true, false, if◌then◌else◌, Option, Some, None, ℤ, ◌≤ℤ◌, refl, inl, inr, arith}
use Rattle.std.specs.Prelude.{unwrap_or, int_le}
use Rattle.std.proofs.lemmas.Bool.{cases_lt}
use Rattle.dual_bound.specs.Worth.{least_below, lesser}

-- each kept number is no less than a bound
pub record NoneLess (keeps : ℕ → Bool) (value : ℕ → ℤ) (low : ℤ) (n : ℕ) : Type 0 where
  pub each : (k : ℕ) → k < n → keeps k ≡ true → low ≤ℤ value k

-- then neither is the lesser of two
low_lesser : (o : Option ℤ) (z low : ℤ) → low ≤ℤ unwrap_or o z → low ≤ℤ z → low ≤ℤ lesser o z
low_lesser None z low p q = q
low_lesser (Some y) z low p q = either (int_le y z)
  where
    either : (b : Bool) → low ≤ℤ (if b then y else z)
    either true = p
    either false = q

-- one place more, kept or not
one_more : (b : Bool) (o : Option ℤ) (value low z : ℤ) → (b ≡ true → low ≤ℤ value) → ((y : ℤ) → low ≤ℤ y → low ≤ℤ unwrap_or o y) → low ≤ℤ z
    → low ≤ℤ unwrap_or (if b then Some (lesser o value) else o) z
one_more true o value low z here before default = low_lesser o value low (before value (here refl)) (here refl)
one_more false o value low z here before default = before z default

fewer : (keeps : ℕ → Bool) (value : ℕ → ℤ) (low : ℤ) (n : ℕ) → NoneLess keeps value low (suc n) → NoneLess keeps value low n
fewer keeps value low n none = record { each = λ k below kept. none.each k (omega arith) kept }

-- nor the least, with a default that is no less
pub least_low : (keeps : ℕ → Bool) (value : ℕ → ℤ) (low : ℤ) (n : ℕ) (z : ℤ) → NoneLess keeps value low n → low ≤ℤ z → low ≤ℤ unwrap_or (least_below keeps value n) z
unfolding least_below
least_low keeps value low zero z none default = default
least_low keeps value low (suc n) z none default =
    one_more (keeps n) (least_below keeps value n) (value n) low z (λ kept. none.each n (omega arith) kept) (λ y h. least_low keeps value low n y (fewer keeps value low n none) h) default

-- with any default, where some number is kept
pub least_of_kept : (keeps : ℕ → Bool) (value : ℕ → ℤ) (low : ℤ) (n k : ℕ) (z : ℤ) → NoneLess keeps value low n → k < n → keeps k ≡ true → low ≤ℤ unwrap_or (least_below keeps value n) z
unfolding least_below
least_of_kept keeps value low zero k z none below kept = absurd (omega arith)
least_of_kept keeps value low (suc n) k z none below kept =
    by_test (keeps n) (least_below keeps value n) (value n)
    (λ here. least_low keeps value low n (value n) (fewer keeps value low n none) (none.each n (omega arith) here))
    (λ here. none.each n (omega arith) here)
    (λ other. elim (cases_lt k n) [
      | inl earlier ↦ least_of_kept keeps value low n k z (fewer keeps value low n none) earlier kept
      | inr later ↦ let last : k ≡ n = omega arith in let kept_last : keeps n ≡ true = rw last at kept in absurd (cc)
    ])
  where
    by_test : (b : Bool) (o : Option ℤ) (v : ℤ) → (b ≡ true → low ≤ℤ unwrap_or o v) → (b ≡ true → low ≤ℤ v) → (b ≡ false → low ≤ℤ unwrap_or o z)
        → low ≤ℤ unwrap_or (if b then Some (lesser o v) else o) z
    by_test true o v p q r = low_lesser o v low (p refl) (q refl)
    by_test false o v p q r = r refl
