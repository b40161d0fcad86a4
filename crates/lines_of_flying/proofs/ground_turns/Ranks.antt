-- Numbers that pass a test, in the order of their keys: the place of one is how many come before it.
use Rattle.std.proofs.Common.{◌≡◌, ℕ, zero, suc, ◌+◌, ◌<◌, ◌≤◌, Bool, true, false, ◌==◌, ◌&&◌, nat_lt, refl, sym, ◌∙◌, ap, inl, inr, arith}
use Rattle.std.proofs.lemmas.Bool.{cases_lt, cases_order, and_from, and_parts, eqb-true, eq-eqb}
use Rattle.std.proofs.lemmas.Bool.Decides.{nat_tests}
use Rattle.sums.specs.Below.{count_below, max_below}
use Rattle.sums.proofs.Counts.{count_below-no_two, count_below-some}
use Rattle.sums.proofs.Maxima.{max_below-upper}
use Rattle.sums.proofs.Sums.{sum_below-agree, sum_below-add, sum_below-le}
use Rattle.lines_of_flying.proofs.ground_turns.Rounds.{bit, part_at_most}
use Rattle.lines_of_flying.proofs.ground_turns.Totals.{some_counted}

-- no two numbers that pass have one key
pub record Differ (p : ℕ → Bool) (key : ℕ → ℕ) (n : ℕ) : Type 0 where
  pub each : (j k : ℕ) → j < n → k < n → p j ≡ true → p k ≡ true → key j ≡ key k → j ≡ k

-- how many that pass have a key below a number
unfoldable pub keyed_below : (ℕ → Bool) → (ℕ → ℕ) → ℕ → ℕ → ℕ
keyed_below p key n x = count_below (λ q. p q && nat_lt (key q) x) n

module _ (p : ℕ → Bool) (key : ℕ → ℕ) (n : ℕ) where
  pub keyed_rises : (x y : ℕ) → x ≤ y → keyed_below p key n x ≤ keyed_below p key n y
  unfolding keyed_below
  keyed_rises x y le = sum_below-le (λ q. bit (p q && nat_lt (key q) x)) (λ q. bit (p q && nat_lt (key q) y)) n (record { each = λ q lt. one (p q) (key q) x y le })
    where
      one : (b : Bool) (k x y : ℕ) → x ≤ y → bit (b && nat_lt k x) ≤ bit (b && nat_lt k y)
      one b k x y le = grind (arith, nat_tests)

  keyed_first : keyed_below p key n 0 ≡ 0
  unfolding keyed_below
  keyed_first = nothing n
    where
      one : (b : Bool) (k : ℕ) → bit (b && nat_lt k 0) ≡ 0
      one b k = grind (arith, nat_tests)

      nothing : (m : ℕ) → count_below (λ q. p q && nat_lt (key q) 0) m ≡ 0
      nothing zero = refl
      nothing (suc m) = let rest = nothing m in omega (arith, rest, one (p m) (key m))

  -- those with the next key
  keyed_more : (x : ℕ) → keyed_below p key n (suc x) ≡ keyed_below p key n x + count_below (λ q. p q && (key q == x)) n
  unfolding keyed_below
  keyed_more x =
      sum_below-agree (λ q. bit (p q && nat_lt (key q) (suc x))) (λ q. bit (p q && nat_lt (key q) x) + bit (p q && (key q == x))) n (record { each = λ q lt. one (p q) (key q) x })
      ∙ sum_below-add (λ q. bit (p q && nat_lt (key q) x)) (λ q. bit (p q && (key q == x))) n
    where
      one : (b : Bool) (k x : ℕ) → bit (b && nat_lt k (suc x)) ≡ bit (b && nat_lt k x) + bit (b && (k == x))
      one b k x = grind (arith, nat_tests)

one_less : (b : Bool) (place j k y : ℕ) → (b ≡ true → place < j → k < y) → bit (b && nat_lt place j) ≤ bit (b && nat_lt k y)
one_less false place j k y h = omega arith
one_less true place j k y h = elim (cases_lt place j) [ inl less ↦ let before = h refl less in grind (arith, nat_tests) | inr more ↦ grind (arith, nat_tests) ]

module _ (p : ℕ → Bool) (key : ℕ → ℕ) (n : ℕ) where
  -- a number above all keys
  past_all : ℕ
  past_all = suc (max_below key n)

  under_past : (q : ℕ) → q < n → key q < past_all
  unfolding past_all
  under_past q lt = omega (arith, max_below-upper key n q lt)

  low : (y j q : ℕ) → keyed_below p key n y ≡ j → keyed_below p key n (key q) < j → key q < y
  low y j q e less = elim (cases_lt (key q) y) [
    | inl before ↦ before
    | inr after ↦ absurd (omega (arith, keyed_rises p key n y (key q) after, e, less))
  ]

  up_to : (y j : ℕ) → ((q : ℕ) → q < n → p q ≡ true → keyed_below p key n (key q) < j → key q < y)
      → count_below (λ q. p q && nat_lt (keyed_below p key n (key q)) j) n ≤ keyed_below p key n y
  unfolding keyed_below
  up_to y j h = sum_below-le (λ q. bit (p q && nat_lt (keyed_below p key n (key q)) j)) (λ q. bit (p q && nat_lt (key q) y)) n
      (record { each = λ q lt. one_less (p q) (keyed_below p key n (key q)) j (key q) y (h q lt) })

keyed_all : (p : ℕ → Bool) (key : ℕ → ℕ) (n x : ℕ) → keyed_below p key n x ≤ count_below p n
unfolding keyed_below
keyed_all p key n x = sum_below-le (λ q. bit (p q && nat_lt (key q) x)) (λ q. bit (p q)) n (record { each = λ q lt. part_at_most (p q) (nat_lt (key q) x) })

past_counts : (p : ℕ → Bool) (key : ℕ → ℕ) (n : ℕ) → keyed_below p key n (past_all p key n) ≡ count_below p n
unfolding keyed_below
past_counts p key n =
    sum_below-agree (λ q. bit (p q && nat_lt (key q) (past_all p key n))) (λ q. bit (p q)) n
    (record { each = λ q lt. one (p q) (key q) (past_all p key n) (under_past p key n q lt) })
  where
    one : (b : Bool) (k x : ℕ) → k < x → bit (b && nat_lt k x) ≡ bit b
    one b k x less = grind (arith, nat_tests)

module _ (p : ℕ → Bool) (key : ℕ → ℕ) (n : ℕ) (differ : Differ p key n) where
  keyed_once : (x : ℕ) → count_below (λ q. p q && (key q == x)) n ≤ 1
  keyed_once x = count_below-no_two (λ q. p q && (key q == x)) n (λ j k lt less e g.
      let first = and_parts (p j) (key j == x) e in
      let second = and_parts (p k) (key k == x) g in
      differ.each j k lt less first.0 second.0 (eqb-true (key j) x first.1 ∙ sym (eqb-true (key k) x second.1)))

  -- the key at which so many are passed
  reached : (x j : ℕ) → j < keyed_below p key n x → (y : ℕ) × (keyed_below p key n y ≡ j) × (keyed_below p key n (suc y) ≡ suc j)
  reached zero j h = absurd (omega (arith, keyed_first p key n))
  reached (suc x) j h = elim (cases_lt j (keyed_below p key n x)) [
    | inl before ↦ reached x j before
    | inr here ↦ (x, omega (arith, keyed_more p key n x, keyed_once x), omega (arith, keyed_more p key n x, keyed_once x))
  ]

  -- for each place a number that passes has it
  pub at_place : (x j : ℕ) → j < keyed_below p key n x → (q : ℕ) × (q < n) × (p q ≡ true) × (keyed_below p key n (key q) ≡ j)
  at_place x j h =
      let y = reached x j h in
      let found = some_counted (λ q. p q && (key q == y.0)) n (omega (arith, keyed_more p key n y.0, y.1, y.2)) in
      let parts = and_parts (p found.0) (key found.0 == y.0) found.2 in
      (found.0, found.1, parts.0, ap (keyed_below p key n) (eqb-true (key found.0) y.0 parts.1) ∙ y.1)

  -- no more than so many have a place below a number
  pub few_places : (j : ℕ) → count_below (λ q. p q && nat_lt (keyed_below p key n (key q)) j) n ≤ j
  few_places j = elim (cases_lt j (keyed_below p key n (past_all p key n))) [
    | inl some ↦ let y = reached (past_all p key n) j some in omega (arith, up_to p key n y.0 j (λ q lt passes less. low p key n y.0 j q y.1 less), y.1)
    | inr all ↦ omega (arith, up_to p key n (past_all p key n) j (λ q lt passes less. under_past p key n q lt))
  ]

  -- one comes before another, so its place is lower
  pub earlier_place : (q r : ℕ) → q < n → p q ≡ true → key q < key r → keyed_below p key n (key q) < keyed_below p key n (key r)
  earlier_place q r lt passes less =
      let some = count_below-some (λ k. p k && (key k == key q)) n q lt (and_from (p q) (key q == key q) passes (eq-eqb (key q) (key q) refl)) in
      omega (arith, keyed_more p key n (key q), some, keyed_rises p key n (suc (key q)) (key r) less)

  -- two with one place are one
  pub one_place : (q r : ℕ) → q < n → r < n → p q ≡ true → p r ≡ true → keyed_below p key n (key q) ≡ keyed_below p key n (key r) → q ≡ r
  one_place q r lt less first second same = elim (cases_order (key q) (key r)) [
    | inl e ↦ differ.each q r lt less first second e
    | inr other ↦ elim other [
      | inl before ↦ absurd (omega (arith, earlier_place q r lt first before, same))
      | inr after ↦ absurd (omega (arith, earlier_place r q less second after, same))
    ]
  ]

  -- and it is below the number of those that pass
  pub place_within : (q : ℕ) → q < n → p q ≡ true → keyed_below p key n (key q) < count_below p n
  place_within q lt passes =
      let some = count_below-some (λ k. p k && (key k == key q)) n q lt (and_from (p q) (key q == key q) passes (eq-eqb (key q) (key q) refl)) in
      omega (arith, keyed_more p key n (key q), some, keyed_all p key n (suc (key q)))

  -- each place below their number is taken
  pub place_taken : (j : ℕ) → j < count_below p n → (q : ℕ) × (q < n) × (p q ≡ true) × (keyed_below p key n (key q) ≡ j)
  place_taken j h = at_place (past_all p key n) j (omega (arith, past_counts p key n, h))
