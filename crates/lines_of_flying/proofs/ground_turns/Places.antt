-- The places of free landings and free departures, by keys of minute and leg.
use Rattle.std.proofs.Common.{◌≡◌, ℕ, suc, ◌+◌, ◌*◌, ◌<◌, ◌≤◌, Bool, ◌&&◌, nat_lt, List, ap, inl, inr, arith}
use Rattle.std.proofs.Math.Nat.{mul-le-mul_left, mul_comm}
use Rattle.std.proofs.lemmas.Nat.{same_from_place}
use Rattle.std.proofs.lemmas.Bool.{cases_order}
use Rattle.std.proofs.lemmas.Bool.Decides.{nat_tests}
use Rattle.sums.proofs.Sums.{sum_below-agree}
use Rattle.fleet_model.specs.declared.parts.Connection.{Connection}
use Rattle.fleet_model.specs.declared.tables.Tables.{Tables}
use Rattle.fleet_model.specs.Schedule.{leg_on, legs_in}
use Rattle.fleet_model.specs.Times.{departure, ready_minute}
use Rattle.lines_of_flying.specs.ground_turns.FirstOut.{departs_before, departure_place, is_before, is_free_departure, is_free_landing, landing_place, lands_before}
use Rattle.lines_of_flying.proofs.ground_turns.Ranks.{Differ, keyed_below}
use Rattle.lines_of_flying.proofs.ground_turns.Rounds.{bit}

-- one number for a minute and one of n legs
pub key_by : ℕ → (ℕ → ℕ) → ℕ → ℕ
key_by n minute q = minute q * n + q

-- a place of a row lies before the end of all rows
pub lower_row : (m m' n q : ℕ) → m < m' → q < n → m * n + q < m' * n
lower_row m m' n q less within =
    let rows : n * suc m ≤ n * m' = mul-le-mul_left n less in
    let first : n * suc m ≡ m * n + n = one_more n m in
    let second : n * m' ≡ m' * n = mul_comm n m' in
    omega arith
  where
    one_more : (n m : ℕ) → n * suc m ≡ m * n + n
    one_more n m = grind arith

-- the order by minute and leg is that of these numbers
before_key : (n m q m' l : ℕ) → q < n → l < n → is_before m q m' l ≡ nat_lt (m * n + q) (m' * n + l)
before_key n m q m' l within known = elim (cases_order m m') [
  | inl same ↦ let equal : m * n ≡ m' * n = ap (λ k. k * n) same in grind (arith, nat_tests)
  | inr other ↦ elim other [
    | inl less ↦ let rows = lower_row m m' n q less within in grind (arith, nat_tests)
    | inr more ↦ let rows = lower_row m' m n l more known in grind (arith, nat_tests)
  ]
]

pub keys_differ : (p : ℕ → Bool) (n : ℕ) (minute : ℕ → ℕ) → Differ p (key_by n minute) n
unfolding key_by
keys_differ p n minute = record { each = λ j k lt less first second e. (same_from_place (minute j) j (minute k) k n lt less e).1 }

module _ (t : Tables) (a : List ℕ) (f : ℕ) (given : List Connection) (s : ℕ) where
  pub landing_key : ℕ → ℕ
  landing_key = key_by (legs_in t) (λ q. ready_minute t (leg_on q f))

  pub departure_key : ℕ → ℕ
  departure_key = key_by (legs_in t) (λ q. departure t (leg_on q f))

  pub landing_is : (l : ℕ) → l < legs_in t → landing_place t a f given s l ≡ keyed_below (is_free_landing t a f given s) landing_key (legs_in t) (landing_key l)
  unfolding landing_place keyed_below landing_key key_by
  landing_is l known =
      sum_below-agree (λ q. bit (lands_before t a f given s l q)) _ (legs_in t)
      (record { each = λ q lt. ap (λ test. bit (is_free_landing t a f given s q && test)) (before_key (legs_in t) (ready_minute t (leg_on q f)) q (ready_minute t (leg_on l f)) l lt known) })

  pub departure_is : (l : ℕ) → l < legs_in t → departure_place t a f given s l ≡ keyed_below (is_free_departure t a f given s) departure_key (legs_in t) (departure_key l)
  unfolding departure_place keyed_below departure_key key_by
  departure_is l known =
      sum_below-agree (λ q. bit (departs_before t a f given s l q)) _ (legs_in t)
      (record { each = λ q lt. ap (λ test. bit (is_free_departure t a f given s q && test)) (before_key (legs_in t) (departure t (leg_on q f)) q (departure t (leg_on l f)) l lt known) })

  pub landings_differ : Differ (is_free_landing t a f given s) landing_key (legs_in t)
  unfolding landing_key
  landings_differ = keys_differ (is_free_landing t a f given s) (legs_in t) (λ q. ready_minute t (leg_on q f))

  pub departures_differ : Differ (is_free_departure t a f given s) departure_key (legs_in t)
  unfolding departure_key
  departures_differ = keys_differ (is_free_departure t a f given s) (legs_in t) (λ q. departure t (leg_on q f))
