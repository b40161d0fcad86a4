-- The laws of counts below a bound.
use Rattle.std.proofs.Common.{◌≡◌, ℕ, zero, suc, ◌+◌, ◌<◌, ◌≤◌, ◌⊎◌, Bool, true, false, if◌then◌else◌, refl, sym, ◌∙◌, ap, inl, inr, arith}
use Rattle.std.proofs.lemmas.Bool.{cases_lt, cases_order}
use Rattle.sums.specs.Below.{count_below}
use Rattle.sums.proofs.Sums.{sum_below-agree, sum_below-zero}

-- a number that passes is counted
pub count_below-some : (p : ℕ → Bool) (n k : ℕ) → k < n → p k ≡ true → 1 ≤ count_below p n
count_below-some p zero k below passes = absurd (omega arith)
count_below-some p (suc n) k below passes = elim (cases_lt k n) [
  | inl before ↦ omega (arith, count_below-some p n k before passes)
  | inr after ↦ let last : k ≡ n = omega arith in let passes_last : p n ≡ true = rw (← last) passes in grind arith
]

-- two numbers that pass are counted
pub count_below-two : (p : ℕ → Bool) (n j k : ℕ) → j < k → k < n → p j ≡ true → p k ≡ true → 2 ≤ count_below p n
count_below-two p zero j k order below first second = absurd (omega arith)
count_below-two p (suc n) j k order below first second = elim (cases_lt k n) [
  | inl before ↦ omega (arith, count_below-two p n j k order before first second)
  | inr after ↦
      let last : k ≡ n = omega arith in
      let passes_last : p n ≡ true = rw (← last) second in
      let some : 1 ≤ count_below p n = count_below-some p n j (omega arith) first in
      grind arith
]

-- where one number passes, any two that pass are equal
pub count_below-one : (p : ℕ → Bool) (n j k : ℕ) → count_below p n ≡ 1 → j < n → k < n → p j ≡ true → p k ≡ true → j ≡ k
count_below-one p n j k one within_j within_k first second = elim (cases_order j k) [
  | inl same ↦ same
  | inr other ↦ elim other [
    | inl before ↦ absurd (omega (arith, count_below-two p n j k before within_k first second))
    | inr after ↦ absurd (omega (arith, count_below-two p n k j after within_j second first))
  ]
]

-- a number that passes, or none does
pub find_below : (p : ℕ → Bool) (n : ℕ) → ((k : ℕ) × (k < n) × (p k ≡ true)) ⊎ ((k : ℕ) → k < n → p k ≡ false)
find_below p zero = inr (λ k below. absurd (omega arith))
find_below p (suc n) = elim (find_below p n) [
  | inl found ↦ inl (found.0, omega (arith, found.1), found.2)
  | inr none ↦ here (p n) refl none
]
  where
    here : (b : Bool) → p n ≡ b → ((k : ℕ) → k < n → p k ≡ false) → ((k : ℕ) × (k < suc n) × (p k ≡ true)) ⊎ ((k : ℕ) → k < suc n → p k ≡ false)
    here true e none = inl (n, omega arith, e)
    here false e none = inr (λ k below. elim (cases_lt k n) [ inl less ↦ none k less | inr last ↦ let same : k ≡ n = omega arith in rw same e ])

-- where none passes, none is counted
pub count_below-none : (p : ℕ → Bool) (n : ℕ) → ((k : ℕ) → k < n → p k ≡ false) → count_below p n ≡ 0
count_below-none p n none =
    sum_below-agree (λ k. if p k then 1 else 0) (λ k. 0) n (record { each = λ k lt. ap (λ b. if b then 1 else 0) (none k lt) }) ∙ sum_below-zero n

-- where no two numbers pass, at most one does
pub count_below-no_two : (p : ℕ → Bool) (n : ℕ) → ((j k : ℕ) → j < n → k < n → p j ≡ true → p k ≡ true → j ≡ k) → count_below p n ≤ 1
count_below-no_two p zero alone = omega arith
count_below-no_two p (suc n) alone = either (p n) refl (count_below-no_two p n (λ j k j_lt k_lt. alone j k (omega arith) (omega arith)))
  where
    fails : p n ≡ true → (k : ℕ) → k < n → (b : Bool) → b ≡ p k → p k ≡ false
    fails last k lt true e = let same : k ≡ n = alone k n (omega arith) (omega arith) (sym e) last in absurd (omega arith)
    fails last k lt false e = sym e

    one : (b : Bool) (count : ℕ) → b ≡ true → count ≡ 0 → count + (if b then 1 else 0) ≤ 1
    one true count e f = omega arith
    one false count e f = cc

    none : (b : Bool) (count : ℕ) → b ≡ false → count ≤ 1 → count + (if b then 1 else 0) ≤ 1
    none false count e le = omega arith
    none true count e le = cc

    either : (b : Bool) → b ≡ p n → count_below p n ≤ 1 → count_below p n + (if p n then 1 else 0) ≤ 1
    either true e before = one (p n) (count_below p n) (sym e) (count_below-none p n (λ k lt. fails (sym e) k lt (p k) refl))
    either false e before = none (p n) (count_below p n) (sym e) before
