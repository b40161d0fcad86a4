-- A flight that is flown every period: how many of it are under way at a minute.
use Rattle.std.proofs.Common.{◌≡◌, ℕ, zero, suc, ◌+◌, ◌-◌, ◌*◌, ◌<◌, ◌≤◌, min, if◌then◌else◌, ◌&&◌, nat_lt, nat_le, refl, inl, inr, arith}
use Rattle.std.proofs.Math.Nat.{mul-le-mul_left, mul-suc, mul_comm}
use Rattle.std.proofs.lemmas.Bool.{cases_lt}
use Rattle.std.proofs.lemmas.Bool.Decides.{nat_tests}
use Rattle.sums.specs.Below.{count_below}
use Rattle.sums.proofs.Sums.{sum_below-agree}

-- one where the first number is at most the second
abbrev pub if_le : ℕ → ℕ → ℕ
if_le a b = if nat_le a b then 1 else 0

-- the numbers from low on and below high, counted below n
count_between : (low high n : ℕ) → low ≤ high → count_below (λ k. nat_le low k && nat_lt k high) n ≡ min n high - low
count_between low high zero order = omega arith
count_between low high (suc n) order =
    let front = count_between low high n order in
    elim (cases_lt n high) [
      | inl inside ↦ elim (cases_lt n low) [ inl before ↦ grind (arith, nat_tests) | inr after ↦ grind (arith, nat_tests) ]
      | inr past ↦ grind (arith, nat_tests)
    ]

-- the flight of k periods ago has left
left_by : (p d m k : ℕ) → d < p → nat_le d (m + p * k) ≡ nat_le (1 - if_le d m) k
left_by p d m zero dep = let none : p * 0 ≡ 0 = omega arith in grind (arith, nat_tests)
left_by p d m (suc k) dep = let more : p ≤ p * suc k = omega (arith, mul-suc p k) in grind (arith, nat_tests)

-- it isn't ready, where readiness is q periods and r minutes after its period's start
still_out : (p m q r k : ℕ) → m < p → r < p → nat_lt (m + p * k) (p * q + r) ≡ nat_lt k (q + (1 - if_le r m))
still_out p m q r k minute ready = elim (cases_lt k q) [
  | inl below ↦ let row : p * suc k ≤ p * q = mul-le-mul_left p below in
      let step : p * suc k ≡ p * k + p = mul-suc p k in grind (arith, nat_tests)
  | inr above ↦ elim (cases_lt q k) [
    | inl later ↦ let row : p * suc q ≤ p * k = mul-le-mul_left p later in
        let step : p * suc q ≡ p * q + p = mul-suc p q in grind (arith, nat_tests)
    | inr same ↦ let equal : k ≡ q = omega arith in rw equal (grind (arith, nat_tests))
  ]
]

-- a bound of a test's number
pub if_le-most : (a b : ℕ) → if_le a b ≤ 1
if_le-most a b = grind (arith, nat_tests)

order_of_ends : (p d m q r : ℕ) → m < p → d ≤ p * q + r → 1 - if_le d m ≤ q + (1 - if_le r m)
order_of_ends p d m zero r minute order = let none : p * 0 ≡ 0 = omega arith in grind (arith, nat_tests)
order_of_ends p d m (suc q) r minute order = grind (arith, nat_tests)

room : (p m q r n : ℕ) → p * q + r ≤ n → 0 < p → q + (1 - if_le r m) ≤ n
room p m q r n enough some =
    let row : q * 1 ≤ q * p = mul-le-mul_left q some in
    let turned : q * p ≡ p * q = mul_comm q p in
    grind (arith, nat_tests)

-- How many of a flight's departures, one a period, are under way at a minute: with the one that has become
-- ready by then they are the laps and the one that has left by then.
pub under_way_at : (p d m q r n : ℕ) → d < p → m < p → r < p → d ≤ p * q + r → p * q + r ≤ n → 0 < p
    → count_below (λ k. nat_le d (m + p * k) && nat_lt (m + p * k) (p * q + r)) n + if_le r m ≡ q + if_le d m
under_way_at p d m q r n dep minute ready order enough some =
    let same = sum_below-agree (λ k. if nat_le d (m + p * k) && nat_lt (m + p * k) (p * q + r) then 1 else 0)
    (λ k. if nat_le (1 - if_le d m) k && nat_lt k (q + (1 - if_le r m)) then 1 else 0) n
    (record { each = λ k below. rw (left_by p d m k dep, still_out p m q r k minute ready) refl }) in
    let between = count_between (1 - if_le d m) (q + (1 - if_le r m)) n (order_of_ends p d m q r minute order) in
    let fits = room p m q r n enough some in
    let ends = order_of_ends p d m q r minute order in
    omega (arith, same, between, fits, ends, if_le-most d m, if_le-most r m)

-- the same, where readiness is given as one number
pub aloft_at : (p d m q r x : ℕ) → x ≡ p * q + r → d < p → m < p → r < p → d ≤ x → 0 < p
    → count_below (λ k. nat_le d (m + p * k) && nat_lt (m + p * k) x) x + if_le r m ≡ q + if_le d m
aloft_at p d m q r x is dep minute ready order some =
    rw is (under_way_at p d m q r (p * q + r) dep minute ready (omega arith) (omega arith) some)
