-- Sums by their terms, and tests that are counted.
use Rattle.std.proofs.Common.{◌≡◌, ◌≢◌, ℕ, zero, suc, ◌+◌, ◌-◌, ◌*◌, ◌<◌, ◌≤◌, Bool, true, false, if◌then◌else◌, refl, sym, inl, inr, arith}
use mathlib.Core.Bool.{false≢true}
use Rattle.std.proofs.lemmas.Bool.{cases_lt, cases_order}
use Rattle.sums.specs.Below.{count_below, sum_below}
use Rattle.sums.proofs.Counts.{count_below-no_two, count_below-none, count_below-some, find_below}
use Rattle.sums.proofs.Ranks.{numbers_few}
use Rattle.sums.proofs.OneChanged.{AgreeBut, sum_below-more}

pub same_bit : (b c : Bool) → ◌≡◌ {A = ℕ} (if b then 1 else 0) (if c then 1 else 0) → b ≡ c
same_bit true true e = refl
same_bit true false e = absurd (omega arith)
same_bit false true e = absurd (omega arith)
same_bit false false e = refl

-- equal sums whose terms agree but for one agree there
pub same_term : (f g : ℕ → ℕ) (n place : ℕ) → place < n → sum_below f n ≡ sum_below g n → AgreeBut f g place n → f place ≡ g place
same_term f g n place within same others = elim (cases_lt (f place) (g place)) [
  | inl less ↦
      let law = sum_below-more g f n place (g place - f place) within (omega arith) (record { each = λ k lt other. sym (others.each k lt other) }) in
      absurd (omega (arith, law, same))
  | inr no_less ↦
      let law = sum_below-more f g n place (f place - g place) within (omega arith) others in
      omega (arith, law, same)
]

-- where no term is more and one is less, the sum is less
pub less_sum : (f g : ℕ → ℕ) (n place : ℕ) → place < n → ((k : ℕ) → k < n → f k ≤ g k) → f place < g place → sum_below f n < sum_below g n
less_sum f g zero place within each less = absurd (omega arith)
less_sum f g (suc n) place within each less = elim (cases_lt place n) [
  | inl before ↦ omega (arith, less_sum f g n place before (λ k lt. each k (omega arith)) less, each n (omega arith))
  | inr after ↦ let last : place ≡ n = omega arith in last_less last (no_more n (λ k lt. each k (omega arith)))
]
  where
    no_more : (m : ℕ) → ((k : ℕ) → k < m → f k ≤ g k) → sum_below f m ≤ sum_below g m
    no_more zero h = omega arith
    no_more (suc m) h = omega (arith, no_more m (λ k lt. h k (omega arith)), h m (omega arith))

    last_less : place ≡ n → sum_below f n ≤ sum_below g n → sum_below f n + f n < sum_below g n + g n
    last_less last front = let here : f n < g n = rw (← last) less in omega (arith, front, here)

-- where some are counted, there is one
pub some_counted : (p : ℕ → Bool) (n : ℕ) → 0 < count_below p n → (k : ℕ) × (k < n) × (p k ≡ true)
some_counted p n some = elim (find_below p n) [
  | inl found ↦ found
  | inr none ↦ absurd (omega (arith, some, count_below-none p n none))
]

-- a test that at most one number below n passes, and one where b does
pub counted_once : (p : ℕ → Bool) (n : ℕ) (b : Bool) → ((j k : ℕ) → j < n → k < n → p j ≡ true → p k ≡ true → j ≡ k)
    → (b ≡ true → (k : ℕ) × (k < n) × (p k ≡ true)) → ((k : ℕ) → k < n → p k ≡ true → b ≡ true) → count_below p n ≡ (if b then 1 else 0)
counted_once p n true one some only =
    let found = some refl in
    let least = count_below-some p n found.0 found.1 found.2 in
    omega (arith, least, count_below-no_two p n one)
counted_once p n false one some only = elim (cases_lt 0 (count_below p n)) [
  | inl more ↦ let found = some_counted p n more in absurd (false≢true (only found.0 found.1 found.2))
  | inr none ↦ omega arith
]

-- where each two terms, from an even place on, add up to 1, a sum is half of their number
pub one_each : (add : ℕ → ℕ) (n : ℕ) → ((i : ℕ) → i < n → add (2 * i) + add (2 * i + 1) ≡ 1) → sum_below add (2 * n) ≡ n
one_each add zero each = refl
one_each add (suc n) each =
    let before = one_each add n (λ i below. each i (omega arith)) in
    let here = each n (omega arith) in
    let twice : 2 * suc n ≡ suc (suc (2 * n)) = omega arith in
    let next : suc (2 * n) ≡ 2 * n + 1 = omega arith in
    rw twice (rw next (omega (arith, before, here)))

-- numbers below a bound, of which no two are the same, are no more than the bound
pub few_apart : (place : ℕ → ℕ) (count bound : ℕ) → ((k : ℕ) → k < count → place k < bound) → ((j k : ℕ) → j < k → k < count → place j ≢ place k) → count ≤ bound
few_apart place count bound within differ = numbers_few place count bound within (λ j k lt less same. elim (cases_order j k) [
  | inl one ↦ one
  | inr other ↦ elim other [ inl before ↦ absurd (differ j k before less same) | inr after ↦ absurd (differ k j after lt (sym same)) ]
])
