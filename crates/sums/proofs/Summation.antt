-- Summation by parts (Abel): counts that grow through the minutes, priced at the minutes in which they grow.
use Rattle.std.proofs.Common.{◌≡◌, ℕ, zero, suc, ◌+◌, ◌-◌, ◌<◌, ◌≤◌, Bool, true, false, if◌then◌else◌, ◌&&◌, nat_le, ℤ, pos, ◌+ℤ◌, ◌*ℤ◌, ◌≤ℤ◌, refl, sym, ◌∙◌, ap, arith}
use mathlib.Core.Bool.{false≢true}
use Rattle.std.proofs.lemmas.Bool.Decides.{nat_tests}
use Rattle.std.proofs.lemmas.Int.{ints}
use lib.IntN.{*ℤ-zero, zero-*ℤ}
use Rattle.sums.specs.Below.{sum_below, sum_below_ℤ}
use Rattle.sums.proofs.Integers.{*ℤ-+ℤ}
use Rattle.sums.proofs.Orders.{same_times, times_le}
use Rattle.sums.proofs.WholeSums.{sum_below_ℤ-same}
use Rattle.sums.proofs.WholeSwaps.{sum_below-times, sum_below_ℤ-+ℤ, sum_below_ℤ-zero, where_true}

-- value is what each unit of count adds when it comes, by the price of that minute
pub record IsPriced (count : ℕ → ℕ) (value price : ℕ → ℤ) : Type 0 where
  pub first : value 0 ≡ pos (count 0) *ℤ price 0
  pub next : (m : ℕ) → value (suc m) +ℤ (pos (count m) *ℤ price (suc m)) ≡ value m +ℤ (pos (count (suc m)) *ℤ price (suc m))

-- what legs that pass add by a minute, each from its own minute on
abbrev pub come_by : (ℕ → Bool) → (ℕ → ℕ) → (ℕ → ℕ) → ℕ → ℕ → ℕ
come_by passes minute weight m l = if passes l && nat_le (minute l) m then weight l else 0

-- the same, priced
abbrev pub priced_by : (ℕ → Bool) → (ℕ → ℕ) → (ℕ → ℕ) → (ℕ → ℤ) → ℕ → ℕ → ℤ
priced_by passes minute weight price m l = where_true (passes l && nat_le (minute l) m) (pos (weight l) *ℤ price (minute l))

-- a leg's share at the first minute
share_first : (c : Bool) (minute weight : ℕ) (price : ℕ → ℤ) → (c ≡ true → minute ≡ 0) → where_true c (pos weight *ℤ price minute) ≡ pos (if c then weight else 0) *ℤ price 0
share_first true minute weight price at = ap (λ m. pos weight *ℤ price m) (at refl)
share_first false minute weight price at = sym (zero-*ℤ (price 0))

-- what it adds in the next minute
share_next : (before now : Bool) (minute m weight : ℕ) (price : ℕ → ℤ) → (before ≡ true → now ≡ true) → (before ≡ false → now ≡ true → minute ≡ suc m)
    → where_true now (pos weight *ℤ price minute) +ℤ (pos (if before then weight else 0) *ℤ price (suc m))
    ≡ where_true before (pos weight *ℤ price minute) +ℤ (pos (if now then weight else 0) *ℤ price (suc m))
share_next true true minute m weight price stays at = refl
share_next true false minute m weight price stays at = absurd (false≢true (stays refl))
share_next false true minute m weight price stays at = rw (at refl refl) (omega (arith, ints, zero-*ℤ (price (suc m))))
share_next false false minute m weight price stays at = refl

-- counts of legs by their minutes, and their prices
pub legs_priced : (passes : ℕ → Bool) (minute weight : ℕ → ℕ) (price : ℕ → ℤ) (legs : ℕ)
    → IsPriced (λ m. sum_below (come_by passes minute weight m) legs) (λ m. sum_below_ℤ (priced_by passes minute weight price m) legs) price
legs_priced passes minute weight price legs = record {
  first = sum_below_ℤ-same (priced_by passes minute weight price 0) (λ l. pos (come_by passes minute weight 0 l) *ℤ price 0) legs (λ l below. share_first (come 0 l) (minute l) (weight l) price (at_start (passes l) (minute l)))
      ∙ sum_below-times (come_by passes minute weight 0) (price 0) legs;
  next = λ m.
      let added = sum_below_ℤ-same (λ l. priced_by passes minute weight price (suc m) l +ℤ (pos (come_by passes minute weight m l) *ℤ price (suc m)))
      (λ l. priced_by passes minute weight price m l +ℤ (pos (come_by passes minute weight (suc m) l) *ℤ price (suc m))) legs
      (λ l below. share_next (come m l) (come (suc m) l) (minute l) m (weight l) price (stays (passes l) (minute l) m) (at_next (passes l) (minute l) m)) in
      let left = sum_below_ℤ-+ℤ (priced_by passes minute weight price (suc m)) (λ l. pos (come_by passes minute weight m l) *ℤ price (suc m)) legs in
      let right = sum_below_ℤ-+ℤ (priced_by passes minute weight price m) (λ l. pos (come_by passes minute weight (suc m) l) *ℤ price (suc m)) legs in
      let before = sum_below-times (come_by passes minute weight m) (price (suc m)) legs in
      let after = sum_below-times (come_by passes minute weight (suc m)) (price (suc m)) legs in
      omega (arith, ints, added, left, right, before, after);
}
  where
    come : ℕ → ℕ → Bool
    come m l = passes l && nat_le (minute l) m

    at_start : (b : Bool) (t : ℕ) → (b && nat_le t 0) ≡ true → t ≡ 0
    at_start b t e = grind (arith, nat_tests)

    stays : (b : Bool) (t m : ℕ) → (b && nat_le t m) ≡ true → (b && nat_le t (suc m)) ≡ true
    stays b t m e = grind (arith, nat_tests)

    at_next : (b : Bool) (t m : ℕ) → (b && nat_le t m) ≡ false → (b && nat_le t (suc m)) ≡ true → t ≡ suc m
    at_next b t m e f = grind (arith, nat_tests)

-- one minute more, over plain numbers
one_minute : (need d a d' a' : ℕ) (l r l' r' p0 p p' rise paid : ℤ) → d ≤ need + a → p' ≤ℤ (p +ℤ rise)
    → l' +ℤ (pos d *ℤ p') ≡ l +ℤ (pos d' *ℤ p') → r' +ℤ (pos a *ℤ p') ≡ r +ℤ (pos a' *ℤ p')
    → (l +ℤ (pos need *ℤ p) +ℤ (pos a *ℤ p)) ≤ℤ (r +ℤ (pos need *ℤ p0) +ℤ (pos d *ℤ p) +ℤ paid)
    → (l' +ℤ (pos need *ℤ p') +ℤ (pos a' *ℤ p')) ≤ℤ (r' +ℤ (pos need *ℤ p0) +ℤ (pos d' *ℤ p') +ℤ (paid +ℤ (pos (need + a - d) *ℤ rise)))
one_minute need d a d' a' l r l' r' p0 p p' rise paid enough falls left right before =
    let spare : ℕ = need + a - d in
    let all : need + a ≡ spare + d = omega arith in
    let old = same_times need a spare d p all in
    let new = same_times need a spare d p' all in
    let less = times_le spare p' (p +ℤ rise) falls in
    let parts = *ℤ-+ℤ (pos spare) p rise in
    omega (arith, ints, old, new, less, parts)

-- what stands at the end of a minute, of a stock
abbrev pub stands : ℕ → (ℕ → ℕ) → (ℕ → ℕ) → ℕ → ℕ
stands stock departed arrived m = stock + arrived m - departed m

-- Where departures by a minute are at most a stock and the arrivals by then, and the price rises from a minute to the next
-- by no more than is said for it, departures are worth no more than arrivals, the fall of the price on the stock, the price
-- then on those still away, and the rises so far, each on what stood.
pub by_parts_rising : (departed arrived : ℕ → ℕ) (out back price rise : ℕ → ℤ) (stock minutes : ℕ) → IsPriced departed out price → IsPriced arrived back price
    → ((m : ℕ) → m < minutes → departed m ≤ stock + arrived m) → ((m : ℕ) → suc m < minutes → price (suc m) ≤ℤ (price m +ℤ rise m))
    → (m : ℕ) → m < minutes
    → (out m +ℤ (pos stock *ℤ price m) +ℤ (pos (arrived m) *ℤ price m))
    ≤ℤ (back m +ℤ (pos stock *ℤ price 0) +ℤ (pos (departed m) *ℤ price m) +ℤ sum_below_ℤ (λ k. pos (stands stock departed arrived k) *ℤ rise k) m)
by_parts_rising departed arrived out back price rise stock minutes left right enough rises zero within = omega (arith, ints, left.first, right.first)
by_parts_rising departed arrived out back price rise stock minutes left right enough rises (suc m) within =
    one_minute stock (departed m) (arrived m) (departed (suc m)) (arrived (suc m)) (out m) (back m) (out (suc m)) (back (suc m)) (price 0) (price m) (price (suc m)) (rise m)
    (sum_below_ℤ (λ k. pos (stands stock departed arrived k) *ℤ rise k) m)
    (enough m (omega arith)) (rises m within) (left.next m) (right.next m) (by_parts_rising departed arrived out back price rise stock minutes left right enough rises m (omega arith))

-- .. and where the price never rises, nothing for rises
pub by_parts : (departed arrived : ℕ → ℕ) (out back price : ℕ → ℤ) (stock minutes : ℕ) → IsPriced departed out price → IsPriced arrived back price
    → ((m : ℕ) → m < minutes → departed m ≤ stock + arrived m) → ((m : ℕ) → suc m < minutes → price (suc m) ≤ℤ price m)
    → (m : ℕ) → m < minutes
    → (out m +ℤ (pos stock *ℤ price m) +ℤ (pos (arrived m) *ℤ price m)) ≤ℤ (back m +ℤ (pos stock *ℤ price 0) +ℤ (pos (departed m) *ℤ price m))
by_parts departed arrived out back price stock minutes left right enough falls m within =
    let rising = by_parts_rising departed arrived out back price (λ k. pos 0) stock minutes left right enough (λ k below. omega (arith, ints, falls k below)) m within in
    omega (arith, ints, rising, none)
  where
    none : sum_below_ℤ (λ k. pos (stands stock departed arrived k) *ℤ pos 0) m ≡ pos 0
    none = sum_below_ℤ-same (λ k. pos (stands stock departed arrived k) *ℤ pos 0) (λ k. pos 0) m (λ k below. *ℤ-zero (pos (stands stock departed arrived k))) ∙ sum_below_ℤ-zero m
