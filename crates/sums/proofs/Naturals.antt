-- Small laws of numbers from 0 up, for the crates above.
use Rattle.std.proofs.Common.{◌≡◌, ◌≢◌, ℕ, zero, suc, ◌+◌, ◌*◌, ◌-◌, ◌<◌, ◌≤◌, max, Bool, true, cond, ◌==◌, List, [], ◌∷◌, length, refl, inl, inr, arith}
use Rattle.std.proofs.lemmas.Bool.{cases_lt}
use Rattle.std.proofs.lemmas.Bool.Decides.{nat_tests}
use Rattle.std.proofs.Math.Nat.{mul-le-mul_left, mul-suc}
use Rattle.sums.specs.Below.{sum_below}

-- ---- tests of numbers
pub same_number : (n : ℕ) → (n == n) ≡ true
same_number n = grind (arith, nat_tests)

pub equal_number : (m n : ℕ) → m ≡ n → (m == n) ≡ true
equal_number m n e = grind (arith, nat_tests)

pub zero_number : (n : ℕ) → (n == 0) ≡ true → n ≡ 0
zero_number n e = grind (arith, nat_tests)

pub above_zero_tested : (n : ℕ) (x y : Bool) → 0 < n → cond (n == 0) x y ≡ y
above_zero_tested n x y some = grind (arith, nat_tests)

pub by_number : {X : Type 0} (m : ℕ) → (m ≡ 0 → X) → (m ≢ 0 → X) → X
by_number zero p q = p refl
by_number (suc m) p q = q (λ e. cc)

-- ---- orders
pub none_below_0 : (k : ℕ) → k < 0 → ⊥
none_below_0 k h = omega arith

pub at_most_0 : (k : ℕ) → k ≤ 0 → k ≡ 0
at_most_0 k le = omega arith

pub zero_at_most : (k : ℕ) → k ≤ 0 → 0 ≡ k
zero_at_most k le = omega arith

pub past_is_other : (m k n : ℕ) → n ≤ m → k < n → m ≡ k → ⊥
past_is_other m k n p q e = omega arith

pub last_below : (k n : ℕ) → k < n + 1 → n ≤ k → k ≡ n
last_below k n below past = omega arith

pub at_end : (k n longer : ℕ) → k < longer → n ≤ k → longer ≡ n + 1 → k ≡ n
at_end k n longer below past e = omega arith

pub below_next : (m n : ℕ) → m < n → m < suc n
below_next m n less = omega arith

pub some_above : {m n : ℕ} → m < n → 0 < n
some_above less = omega arith

pub one_is_some : (n : ℕ) → n ≡ 1 → 0 < n
one_is_some n e = omega arith

pub none_is_some : {n : ℕ} → n ≡ 0 → 0 < n → ⊥
none_is_some e some = omega arith

pub less_alike : (a b c d : ℕ) → a ≡ b → c ≡ d → b < d → a < c
less_alike a b c d p q less = omega arith

-- ---- sums and differences
pub plus_0 : (n : ℕ) → n + 0 ≡ n
plus_0 n = omega arith

pub plus_suc : (m n : ℕ) → m + suc n ≡ suc (m + n)
plus_suc m n = omega arith

pub sum_less_first : (m n : ℕ) → m + n - m ≡ n
sum_less_first m n = omega arith

pub place_behind : (m n k : ℕ) → m + n - m ≡ k → k ≡ n
place_behind m n k e = omega arith

pub suc_moved : (m n : ℕ) → suc m + n ≡ m + suc n
suc_moved m n = omega arith

pub less_two : (m n : ℕ) → m + 2 ≡ n → m ≡ n - 2
less_two m n e = omega arith

pub one_behind : (n : ℕ) → 0 < n → n ≡ suc (n - 1)
one_behind n some = omega arith

pub as_a_sum : (n a : ℕ) → a ≤ n → n ≡ a + (n - a)
as_a_sum n a order = omega arith

-- ---- products
pub positive_times : (a b : ℕ) → 0 < a → 0 < b → 0 < a * b
positive_times (suc a) (suc b) p q = omega arith
positive_times zero b p q = absurd (omega arith)
positive_times (suc a) zero p q = absurd (omega arith)

pub cancel_le : (k a b : ℕ) → 0 < k → k * a ≤ k * b → a ≤ b
cancel_le k a b some order = elim (cases_lt b a) [
  | inl less ↦ let more : suc b ≤ a = omega arith in absurd (omega (arith, mul-le-mul_left k more, mul-suc k b))
  | inr not_less ↦ omega arith
]

pub cancel_same : (k a b : ℕ) → 0 < k → k * a ≡ k * b → a ≡ b
cancel_same k a b some same = omega (arith, cancel_le k a b some (omega arith), cancel_le k b a some (omega arith))

pub times_max : (c a b : ℕ) → max (c * a) (c * b) ≡ c * max a b
times_max c a b = elim (cases_lt a b) [
  | inl less ↦ let order : c * a ≤ c * b = mul-le-mul_left c (omega arith) in let is : max a b ≡ b = omega arith in rw is (omega arith)
  | inr more ↦ let order : c * b ≤ c * a = mul-le-mul_left c more in let is : max a b ≡ a = omega arith in rw is (omega arith)
]

pub times_below : (c : ℕ) (f g : ℕ → ℕ) (n : ℕ) → ((k : ℕ) → k < n → f k ≡ c * g k) → sum_below f n ≡ c * sum_below g n
times_below c f g zero each = omega arith
times_below c f g (suc n) each = omega (arith, times_below c f g n (λ k below. each k (omega arith)), each n (omega arith))

-- ---- lists
pub first_same : {X : Type 0} (x y : X) (xs ys : List X) → x ∷ xs ≡ y ∷ ys → x ≡ y
first_same x y xs ys e = cc e

pub empty_is : (xs : List ℕ) → length xs ≡ 0 → xs ≡ []
empty_is [] e = refl
empty_is (x ∷ xs) e = absurd (omega arith)
