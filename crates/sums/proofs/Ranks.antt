-- Sets of so many numbers below a bound, each with a number of its own (the combinatorial number system).
use Rattle.std.proofs.Common.{◌≡◌, ℕ, zero, suc, ◌+◌, ◌*◌, ◌<◌, ◌≤◌, ◌≢◌, ◌==◌, Bool, true, false, if◌then◌else◌, nat_lt, refl, sym, ◌∙◌, ap, subst, inl, inr, arith}
use Rattle.std.proofs.lemmas.Bool.{cases_lt, cases_order, eqb-true, eq-eqb, lt-ltb, ltb-true}
use Rattle.std.proofs.lemmas.Bool.Decides.{nat_tests}
use Rattle.sums.specs.Below.{sum_below, count_below}
use Rattle.sums.specs.Ways.{ways_to_choose}
use Rattle.sums.proofs.Sums.{sum_below-agree, sum_below-swap, sum_below-one, sum_below-ones, sum_below-bound}
use Rattle.sums.proofs.Counts.{count_below-no_two, count_below-some, count_below-none, find_below}
use Rattle.sums.proofs.Tests.{no_both}
use Rattle.sums.proofs.Ways.{ways_none_chosen, ways_next, ways_more}

-- the number of a set among those of its size
unfoldable pub rank : (ℕ → Bool) → ℕ → ℕ
rank p zero = 0
rank p (suc n) = rank p n + (if p n then ways_to_choose n (suc (count_below p n)) else 0)

-- there are no more of them than ways to choose
pub rank_below : (p : ℕ → Bool) (n : ℕ) → rank p n < ways_to_choose n (count_below p n)
unfolding rank
rank_below p zero = omega (arith, ways_none_chosen 0)
rank_below p (suc n) = by_last (p n) (count_below p n) (rank p n) (rank_below p n)
  where
    by_last : (b : Bool) (count r : ℕ) → r < ways_to_choose n count → r + (if b then ways_to_choose n (suc count) else 0) < ways_to_choose (suc n) (count + (if b then 1 else 0))
    by_last true count r below = let e : count + 1 ≡ suc count = omega arith in rw e (omega (arith, ways_next n count))
    by_last false count r below = let e : count + 0 ≡ count = omega arith in rw e (omega (arith, ways_more n count))

-- sets of one size and one number are the same
pub same_below : (p q : ℕ → Bool) (n : ℕ) → count_below p n ≡ count_below q n → rank p n ≡ rank q n → (k : ℕ) → k < n → p k ≡ q k
unfolding rank
same_below p q zero size number k within = absurd (omega arith)
same_below p q (suc n) size number k within = elim (cases_lt k n) [
  | inl less ↦ same_below p q n (same.1) (same.2) k less
  | inr ge ↦ let last : n ≡ k = omega arith in subst (λ j. p j ≡ q j) last same.0
]
  where
    -- where one has the last number and the other hasn't, their numbers differ
    by_last : (b c : Bool) (count other r s : ℕ) → r < ways_to_choose n count → s < ways_to_choose n other
        → count + (if b then 1 else 0) ≡ other + (if c then 1 else 0)
        → r + (if b then ways_to_choose n (suc count) else 0) ≡ s + (if c then ways_to_choose n (suc other) else 0)
        → (b ≡ c) × (count ≡ other) × (r ≡ s)
    by_last true true count other r s p q e f =
        let size : count ≡ other = omega arith in
        (refl, size, omega (arith, ap (λ m. ways_to_choose n (suc m)) size))
    by_last false false count other r s p q e f = (refl, omega arith, omega arith)
    by_last true false count other r s p q e f =
        let size : other ≡ suc count = omega arith in
        absurd (omega (arith, ap (ways_to_choose n) size))
    by_last false true count other r s p q e f =
        let size : count ≡ suc other = omega arith in
        absurd (omega (arith, ap (ways_to_choose n) size))

    same : (p n ≡ q n) × (count_below p n ≡ count_below q n) × (rank p n ≡ rank q n)
    same = by_last (p n) (q n) (count_below p n) (count_below q n) (rank p n) (rank q n) (rank_below p n) (rank_below q n) size number

-- ---- as many of them
-- different numbers below a bound are no more than the bound
pub numbers_few : (f : ℕ → ℕ) (count bound : ℕ) → ((k : ℕ) → k < count → f k < bound) → ((j k : ℕ) → j < count → k < count → f j ≡ f k → j ≡ k) → count ≤ bound
numbers_few f count bound within apart =
    let each : sum_below (λ k. sum_below (λ v. if f k == v then 1 else 0) bound) count ≡ sum_below (λ k. 1) count =
    sum_below-agree (λ k. sum_below (λ v. if f k == v then 1 else 0) bound) (λ k. 1) count (record { each = λ k below. sum_below-one (f k) 1 bound (within k below) }) in
    let most : sum_below (λ v. count_below (λ k. f k == v) count) bound ≤ bound * 1 =
    sum_below-bound (λ v. count_below (λ k. f k == v) count) 1 bound
    (record { each = λ v below. count_below-no_two (λ k. f k == v) count (λ j k lt less p q. apart j k lt less (eqb-true (f j) v p ∙ sym (eqb-true (f k) v q))) }) in
    omega (arith, each, most, sum_below-ones count, sum_below-swap (λ k v. if f k == v then 1 else 0) bound count)

-- different sets of one size are no more than ways to choose
pub sets_few : (set : ℕ → ℕ → Bool) (count n size : ℕ) → ((k : ℕ) → k < count → count_below (set k) n ≡ size)
    → ((early late : ℕ) → early < late → late < count → ((c : ℕ) → c < n → set early c ≡ set late c) → ⊥) → count ≤ ways_to_choose n size
sets_few set count n size sized apart =
    numbers_few (λ k. rank (set k) n) count (ways_to_choose n size) (λ k below. subst (λ m. rank (set k) n < ways_to_choose n m) (sized k below) (rank_below (set k) n))
    (λ j k lt less e. elim (cases_order j k) [
      | inl same ↦ same
      | inr other ↦ elim other [
        | inl before ↦ absurd (apart j k before less (same_below (set j) (set k) n (sized j lt ∙ sym (sized k less)) e))
        | inr after ↦ absurd (apart k j after lt (same_below (set k) (set j) n (sized k less ∙ sym (sized j lt)) (sym e)))
      ]
    ])

-- ---- the places of so many
-- some number's place
unfoldable pub is_place : (ℕ → ℕ) → ℕ → ℕ → Bool
is_place place count here = nat_lt 0 (count_below (λ k. place k == here) count)

pub place_found : (place : ℕ → ℕ) (count here : ℕ) → is_place place count here ≡ true → (k : ℕ) × (k < count) × (place k ≡ here)
unfolding is_place
place_found place count here e = elim (find_below (λ k. place k == here) count) [
  | inl found ↦ (found.0, found.1, eqb-true (place found.0) here found.2)
  | inr none ↦ absurd (omega (arith, ltb-true 0 (count_below (λ k. place k == here) count) e, count_below-none (λ k. place k == here) count none))
]

pub place_is : (place : ℕ → ℕ) (count here k : ℕ) → k < count → place k ≡ here → is_place place count here ≡ true
unfolding is_place
place_is place count here k below e =
    lt-ltb 0 (count_below (λ j. place j == here) count) (count_below-some (λ j. place j == here) count k below (eq-eqb (place k) here e))

pub no_place : (place : ℕ → ℕ) (count here k : ℕ) → is_place place count here ≡ false → k < count → place k ≢ here
no_place place count here k e below same = no_both e (place_is place count here k below same)

-- so many different places
pub count_of_places : (place : ℕ → ℕ) (count bound : ℕ) → ((k : ℕ) → k < count → place k < bound) → ((j k : ℕ) → j < count → k < count → place j ≡ place k → j ≡ k)
    → count_below (is_place place count) bound ≡ count
unfolding is_place
count_of_places place count bound within apart =
    sum_below-agree (λ here. if nat_lt 0 (count_below (λ k. place k == here) count) then 1 else 0) (λ here. count_below (λ k. place k == here) count) bound
    (record {
      each = λ here below. as_test (count_below (λ k. place k == here) count)
          (count_below-no_two (λ k. place k == here) count (λ j k lt less p q. apart j k lt less (eqb-true (place j) here p ∙ sym (eqb-true (place k) here q))));
    })
    ∙ sym (sum_below-swap (λ k here. if place k == here then 1 else 0) bound count)
    ∙ sum_below-agree (λ k. sum_below (λ here. if place k == here then 1 else 0) bound) (λ k. 1) count (record { each = λ k below. sum_below-one (place k) 1 bound (within k below) })
    ∙ sum_below-ones count
  where
    as_test : (n : ℕ) → n ≤ 1 → ◌≡◌ {A = ℕ} (if nat_lt 0 n then 1 else 0) n
    as_test n le = grind (arith, nat_tests)
