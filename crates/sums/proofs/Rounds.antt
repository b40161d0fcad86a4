-- Numbers and lists that go round.
use Rattle.std.proofs.Common.{◌≡◌, ℕ, ◌+◌, ◌-◌, ◌*◌, ◌%◌, ◌<◌, ◌≤◌, ◌⊎◌, inl, inr, List, ◌++◌, length, get_or, refl, sym, ◌∙◌, ap, arith, add-sub_cancel, mod-eq_of_lt, zero-add}
use Rattle.std.proofs.lemmas.Bool.{cases_lt}
use Rattle.std.proofs.lemmas.List.{get_or_append_left, get_or-append_right}
use Rattle.std.proofs.lemmas.Nat.{mod-mul-add}

-- a number below twice the modulus
pub mod_cases : (x n : ℕ) → x < n + n → ((x % n ≡ x) × (x < n)) ⊎ ((x % n ≡ x - n) × (n ≤ x))
mod_cases x n h = elim (cases_lt x n) [
  | inl less ↦ inl (mod-eq_of_lt less, less)
  | inr more ↦ inr (ap (λ k. k % n) (turned x n more) ∙ mod-mul-add 1 n (x - n) (omega arith), more)
]
  where
    turned : (x n : ℕ) → n ≤ x → x ≡ 1 * n + (x - n)
    turned x n h = omega arith

-- once round
pub all_round : (n : ℕ) → 0 < n → n % n ≡ 0
all_round n some = ap (λ m. m % n) (once n) ∙ mod-mul-add 1 n 0 some
  where
    once : (n : ℕ) → n ≡ 1 * n + 0
    once n = omega arith

-- a round that begins at a place begins there
pub from_start : (r n : ℕ) → r < n → (0 + r) % n ≡ r
from_start r n lt = ap (λ k. k % n) (zero-add r) ∙ mod-eq_of_lt lt

-- the entry at a place, where the second part of a list comes first
pub moved_entry : {X : Type 0} (d : X) (xs ys : List X) (k : ℕ) → k < length xs + length ys → get_or (ys ++ xs) k d ≡ get_or (xs ++ ys) ((k + length xs) % (length xs + length ys)) d
moved_entry d xs ys k lt = elim (cases_lt k (length ys)) [
  | inl less ↦
      get_or_append_left ys xs d k less
      ∙ sym (ap (λ j. get_or (xs ++ ys) j d) (mod-eq_of_lt (below k (length xs) (length ys) less))
      ∙ get_or-append_right xs ys (length xs) (k + length xs) d refl (ahead k (length xs))
      ∙ ap (λ j. get_or ys j d) (add-sub_cancel k (length xs)))
  | inr ge ↦
      get_or-append_right ys xs (length ys) k d refl ge
      ∙ sym (ap (λ j. get_or (xs ++ ys) j d) (once k (length xs) (length ys) lt ge)
      ∙ get_or_append_left xs ys d (k - length ys) (low k (length xs) (length ys) lt ge))
]
  where
    below : (k m n : ℕ) → k < n → k + m < m + n
    below k m n lt = omega arith

    ahead : (k m : ℕ) → m ≤ k + m
    ahead k m = omega arith

    low : (k m n : ℕ) → k < m + n → n ≤ k → k - n < m
    low k m n lt ge = omega arith

    once : (k m n : ℕ) → k < m + n → n ≤ k → (k + m) % (m + n) ≡ k - n
    once k m n lt ge = elim (mod_cases (k + m) (m + n) (omega arith)) [ inl less ↦ absurd (omega (arith, less.1)) | inr more ↦ more.0 ∙ same k m n ge ]
      where
        same : (k m n : ℕ) → n ≤ k → k + m - (m + n) ≡ k - n
        same k m n ge = omega arith
