-- Sums along a one-to-one map.
use Rattle.std.proofs.Common.{◌≡◌, ℕ, zero, suc, ◌+◌, ◌*◌, ◌<◌, ◌≤◌, ◌==◌, Bool, true, false, if◌then◌else◌, sym, ◌∙◌, ap, subst, inl, inr, arith}
use Rattle.std.proofs.lemmas.Bool.{cases_lt, eqb-true}
use Rattle.sums.specs.Below.{count_below, sum_below}
use Rattle.sums.proofs.Sums.{sum_below-agree, sum_below-at, sum_below-bound, sum_below-ones, sum_below-swap}
use Rattle.sums.proofs.Counts.{count_below-no_two}
use Rattle.plan_rotations.specs.best_matching.Worths.{IsOneToOne}

-- one value as often as a test passes
as_often : (p : ℕ → Bool) (value n : ℕ) → sum_below (λ k. if p k then value else 0) n ≡ value * count_below p n
as_often p value zero = omega arith
as_often p value (suc n) = ap (λ x. x + (if p n then value else 0)) (as_often p value n) ∙ last (p n) value (count_below p n)
  where
    last : (b : Bool) (value count : ℕ) → value * count + (if b then value else 0) ≡ value * (count + (if b then 1 else 0))
    last true value count = omega arith
    last false value count = omega arith

-- each value as often as the map gives its place
pub over_map : (f map : ℕ → ℕ) (n : ℕ) → ((k : ℕ) → k < n → map k < n) → sum_below (λ k. f (map k)) n ≡ sum_below (λ j. f j * count_below (λ k. map k == j) n) n
over_map f map n within =
    sum_below-agree (λ k. f (map k)) (λ k. sum_below (λ j. if map k == j then f j else 0) n) n (record { each = λ k lt. sym (sum_below-at (map k) n f (within k lt)) })
    ∙ sum_below-swap (λ k j. if map k == j then f j else 0) n n
    ∙ sum_below-agree (λ j. sum_below (λ k. if map k == j then f j else 0) n) (λ j. f j * count_below (λ k. map k == j) n) n (record { each = λ j _. as_often (λ k. map k == j) (f j) n })

given_once : (map : ℕ → ℕ) (n j : ℕ) → IsOneToOne map n → count_below (λ k. map k == j) n ≤ 1
given_once map n j m = count_below-no_two (λ k. map k == j) n (λ i k i_lt k_lt p q. m.distinct i k i_lt k_lt (eqb-true _ _ p ∙ sym (eqb-true _ _ q)))

-- numbers of at most 1 that sum to as many as there are
all_one : (c : ℕ → ℕ) (n k : ℕ) → ((j : ℕ) → c j ≤ 1) → sum_below c n ≡ n → k < n → c k ≡ 1
all_one c zero k most e lt = absurd (omega arith)
all_one c (suc n) k most e lt =
    let before : sum_below c n ≤ n * 1 = sum_below-bound c 1 n (record { each = λ j _. most j }) in
    let last : c n ≤ 1 = most n in
    elim (cases_lt k n) [
      | inl less ↦ all_one c n k most (exact _ _ _ e before last) less
      | inr ge ↦ let same : k ≡ n = omega arith in subst (λ i. c i ≡ 1) (sym same) (one _ _ _ e before last)
    ]
  where
    exact : (sum last n : ℕ) → sum + last ≡ suc n → sum ≤ n * 1 → last ≤ 1 → sum ≡ n
    exact sum last n e le most = omega arith

    one : (sum last n : ℕ) → sum + last ≡ suc n → sum ≤ n * 1 → last ≤ 1 → last ≡ 1
    one sum last n e le most = omega arith

-- a sum along a one-to-one map is the sum
pub along : (f map : ℕ → ℕ) (n : ℕ) → IsOneToOne map n → sum_below (λ k. f (map k)) n ≡ sum_below f n
along f map n m =
    over_map f map n m.within
    ∙ sum_below-agree (λ j. f j * count_below (λ k. map k == j) n) f n (record { each = λ j lt. once (f j) _ (all_one (λ i. count_below (λ k. map k == i) n) n j (λ i. given_once map n i m) all lt) })
  where
    once : (x c : ℕ) → c ≡ 1 → x * c ≡ x
    once x c e = ap (λ y. x * y) e ∙ omega arith

    all : sum_below (λ j. count_below (λ k. map k == j) n) n ≡ n
    all = sum_below-agree (λ j. count_below (λ k. map k == j) n) (λ j. 1 * count_below (λ k. map k == j) n) n (record { each = λ j _. omega arith })
        ∙ sym (over_map (λ _. 1) map n m.within) ∙ sum_below-ones n
