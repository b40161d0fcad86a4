-- Where prices rise once rises went to their moments: at the end of a moment alone, by the rise.
use Rattle.std.proofs.Common.{◌≡◌, ℕ, zero, suc, ◌+◌, ◌<◌, ◌≤◌, Bool, true, false, cond, ◌==◌, ◌&&◌, nat_le, nat_lt, if◌then◌else◌, List, length, ℤ, pos, neg_ℤ, ◌+ℤ◌, ◌*ℤ◌, ◌≤ℤ◌, refl, sym, ◌∙◌, ap, ap₂, subst, arith}
use Rattle.std.proofs.lemmas.Bool.Decides.{nat_tests}
use Rattle.std.proofs.lemmas.Int.{clamps, ints}
use Rattle.std.proofs.lemmas.Bool.{eqb-true}
use lib.IntN.{zero-*ℤ}
use Rattle.sums.specs.Below.{sum_below_ℤ}
use Rattle.sums.proofs.Integers.{one-*ℤ}
use Rattle.sums.proofs.Naturals.{equal_number}
use Rattle.sums.proofs.Orders.{same_times}
use Rattle.sums.proofs.Tests.{by_test, never_passes, parts_true}
use Rattle.sums.proofs.WholeSums.{sum_below_ℤ-same}
use Rattle.sums.proofs.WholeSwaps.{sum_below_ℤ-+ℤ}
use Rattle.fleet_model.specs.Schedule.{fleets_in, last_of, period_of, stations_in}
use Rattle.fleet_model.specs.declared.tables.Tables.{Tables}
use Rattle.dual_bound.specs.Prices.{rent_of}
use Rattle.dual_bound.specs.declared.prices.Prices.{Prices}
use Rattle.island_prices.specs.Payback.{AreCovered, AreRisesApart, ends_by, rise_end, rises_end_at}
use Rattle.island_prices.specs.Rises.{AreRises, IsRiseShift, is_rise_of, moved_price, rise_in, rise_shift, rise_shift_by, shift_at, shifted}
use Rattle.island_prices.specs.Rounds.{greatest_below, greatest_rise, rise_where}
use Rattle.island_prices.specs.declared.rises.Rise.{Rise}
use Rattle.island_prices.specs.declared.rises.Shift.{Shift}
use Rattle.island_prices.specs.declared.rises.Shift.TheVariants.{Lowered, Raised}

-- ---- amounts that count as often
abbrev pub once : Bool → ℕ
once b = if b then 1 else 0

pub times : (b : Bool) (z : ℤ) → cond b z (pos 0) ≡ pos (once b) *ℤ z
times true z = sym (one-*ℤ z)
times false z = sym (zero-*ℤ z)

pub as_often : (a b c d : Bool) (z : ℤ) → once a + once b ≡ once c + once d → cond a z (pos 0) +ℤ cond b z (pos 0) ≡ cond c z (pos 0) +ℤ cond d z (pos 0)
as_often a b c d z same = omega (arith, ints, times a z, times b z, times c z, times d z, same_times (once a) (once b) (once c) (once d) z same)

opposite : (b : Bool) (z : ℤ) → cond b (neg_ℤ z) (pos 0) ≡ neg_ℤ (cond b z (pos 0))
opposite true z = refl
opposite false z = refl

-- ---- from a minute to another one, where the tests of a rise count as often
pub record IsNext (t : Tables) (m n : ℕ) : Type 0 where
  pub raised : (a last : ℕ) → a ≤ last → last ≤ last_of t → once (nat_lt a n && nat_le n last) + once (last == m) ≡ once (nat_lt a m && nat_le m last) + once (a == m)
  pub lowered : (a : ℕ) → a ≤ last_of t → once (nat_le m a) + once (last_of t == m) ≡ once (nat_le n a) + once (a == m)

-- .. the next one of the period
raised_next : (a last m : ℕ) → a ≤ last → once (nat_lt a (m + 1) && nat_le (m + 1) last) + once (last == m) ≡ once (nat_lt a m && nat_le m last) + once (a == m)
raised_next a last m order = grind (arith, nat_tests)

lowered_next : (a end m : ℕ) → m + 1 ≤ end → once (nat_le m a) + once (end == m) ≡ once (nat_le (m + 1) a) + once (a == m)
lowered_next a end m within = grind (arith, nat_tests)

pub next_minute : (t : Tables) (m : ℕ) → m + 1 < period_of t → IsNext t m (m + 1)
next_minute t m within = record {
  raised = λ a last order in_period. raised_next a last m order;
  lowered = λ a in_period. lowered_next a (last_of t) m (omega (arith, within));
}

-- .. and the first one of the next period
raised_over : (a last end : ℕ) → a ≤ last → last ≤ end → once (nat_lt a 0 && nat_le 0 last) + once (last == end) ≡ once (nat_lt a end && nat_le end last) + once (a == end)
raised_over a last end order within = grind (arith, nat_tests)

lowered_over : (a end : ℕ) → a ≤ end → once (nat_le end a) + once (end == end) ≡ once (nat_le 0 a) + once (a == end)
lowered_over a end within = grind (arith, nat_tests)

pub next_period : (t : Tables) → IsNext t (last_of t) 0
next_period t = record {
  raised = λ a last order in_period. raised_over a last (last_of t) order in_period;
  lowered = λ a in_period. lowered_over a (last_of t) in_period;
}

one_shift : (t : Tables) (m n : ℕ) → IsNext t m n → (shift : Shift) (moment : ℕ) (amount : ℤ) → IsRiseShift (period_of t) shift moment → moment ≤ last_of t
    → shifted shift moment amount n +ℤ cond (rise_end t shift == m) amount (pos 0) ≡ shifted shift moment amount m +ℤ cond (moment == m) amount (pos 0)
one_shift t m n next (Raised last) moment amount is within =
    as_often (nat_lt moment n && nat_le n last) (last == m) (nat_lt moment m && nat_le m last) (moment == m) amount (next.raised moment last is.0 (omega (arith, is.1)))
one_shift t m n next Lowered moment amount is within =
    let same = as_often (nat_le m moment) (last_of t == m) (nat_le n moment) (moment == m) amount (next.lowered moment within) in
    omega (arith, ints, same, opposite (nat_le n moment) amount, opposite (nat_le m moment) amount)

-- ---- over all rises
-- the rises of a fleet at a station that went to a moment
abbrev pub went_at : List Rise → ℕ → ℕ → ℕ → ℕ → ℤ
went_at rises f s m i = if is_rise_of (rise_in rises i) f s && ((rise_in rises i).moment == m) then (rise_in rises i).amount else pos 0

abbrev pub went_by : List Rise → ℕ → ℕ → ℕ → ℤ
went_by rises f s m = sum_below_ℤ (went_at rises f s m) (length rises)

module _ (t : Tables) (rises : List Rise) (are : AreRises t rises) (f s : ℕ) where
  one_rise : (m n : ℕ) → IsNext t m n → (i : ℕ) → i < length rises → shift_at rises f s n i +ℤ rises_end_at t rises f s m i ≡ shift_at rises f s m i +ℤ went_at rises f s m i
  one_rise m n next i below = by_own (is_rise_of (rise_in rises i) f s)
    where
      by_own : (b : Bool)
          → cond b (rise_shift (rise_in rises i) n) (pos 0) +ℤ cond (b && (rise_end t (rise_in rises i).shift == m)) (rise_in rises i).amount (pos 0)
          ≡ cond b (rise_shift (rise_in rises i) m) (pos 0) +ℤ cond (b && ((rise_in rises i).moment == m)) (rise_in rises i).amount (pos 0)
      by_own true = one_shift t m n next (rise_in rises i).shift (rise_in rises i).moment (rise_in rises i).amount (are.each i below).shift (omega (arith, (are.each i below).moment))
      by_own false = refl

  all_rises : (m n : ℕ) → IsNext t m n → rise_shift_by rises f s n +ℤ ends_by t rises f s m ≡ rise_shift_by rises f s m +ℤ went_by rises f s m
  unfolding rise_shift_by ends_by
  all_rises m n next =
      sym (sum_below_ℤ-+ℤ (shift_at rises f s n) (rises_end_at t rises f s m) (length rises))
      ∙ sum_below_ℤ-same (λ i. shift_at rises f s n i +ℤ rises_end_at t rises f s m i) (λ i. shift_at rises f s m i +ℤ went_at rises f s m i) (length rises) (one_rise m n next)
      ∙ sum_below_ℤ-+ℤ (shift_at rises f s m) (went_at rises f s m) (length rises)

-- ---- one rise of a fleet at a station goes to a moment at most

pub greatest_some : (g : ℕ → ℤ) (n : ℕ) → pos 0 ≤ℤ greatest_below g n
greatest_some g zero = omega (arith, ints)
greatest_some g (suc n) = omega (arith, ints, clamps, greatest_some g n)

pub greatest_upper : (g : ℕ → ℤ) (n k : ℕ) → k < n → g k ≤ℤ greatest_below g n
greatest_upper g zero k below = absurd (omega arith)
greatest_upper g (suc n) k below = by_test (nat_lt k n)
    (λ e. let less : k < n = grind (arith, nat_tests) in omega (arith, ints, clamps, greatest_upper g n k less))
    (λ e. let same : k ≡ n = grind (arith, nat_tests) in subst (λ j. g j ≤ℤ greatest_below g (suc n)) (sym same) (omega (arith, ints, clamps)))

none_passes : (b : ℕ → Bool) (z : ℕ → ℤ) (n : ℕ) → ((k : ℕ) → k < n → b k ≡ false) → sum_below_ℤ (λ k. cond (b k) (z k) (pos 0)) n ≡ pos 0
none_passes b z zero none = refl
none_passes b z (suc n) none = omega (arith, ints, none_passes b z n (λ k below. none k (omega arith)), ap (λ c. cond c (z n) (pos 0)) (none n (omega arith)))

-- where one passes at most, their sum is no more than the greatest
pub sum_of_one : (b : ℕ → Bool) (z g : ℕ → ℤ) (n : ℕ) → ((i j : ℕ) → i < j → j < n → b i ≡ true → b j ≡ true → ⊥) → ((k : ℕ) → k < n → b k ≡ true → z k ≤ℤ g k)
    → sum_below_ℤ (λ k. cond (b k) (z k) (pos 0)) n ≤ℤ greatest_below g n
sum_of_one b z g zero apart within = omega (arith, ints)
sum_of_one b z g (suc n) apart within = by_test (b n)
    (λ e. omega (
      arith,
      ints,
      clamps,
      none_passes b z n (λ k below. never_passes (b k) (λ passes. apart k n below (omega arith) passes e)),
      ap (λ c. cond c (z n) (pos 0)) e,
      within n (omega arith) e,
    ))
    (λ e. omega (
      arith,
      ints,
      clamps,
      sum_of_one b z g n (λ i j order below. apart i j order (omega arith)) (λ k below. within k (omega arith)),
      ap (λ c. cond c (z n) (pos 0)) e,
    ))

module _ (rises : List Rise) (apart : AreRisesApart rises) (f s m : ℕ) where
  pub went_once : went_by rises f s m ≤ℤ greatest_rise rises s m
  unfolding greatest_rise
  went_once =
      sum_of_one (λ i. is_rise_of (rise_in rises i) f s && ((rise_in rises i).moment == m)) (λ i. (rise_in rises i).amount) (rise_where rises s m) (length rises)
      (λ i j order below one other.
      let first = parts i one in
      let second = parts j other in
      apart.each i j order below (record { fleet = first.0 ∙ sym second.0; station = first.1 ∙ sym second.1; moment = first.2 ∙ sym second.2 }))
      (λ i below passes.
      let own = parts i passes in
      let same : rise_where rises s m i ≡ (rise_in rises i).amount = ap₂ (λ b c. cond (b && c) (rise_in rises i).amount (pos 0)) (equal_number (rise_in rises i).station s own.1) (equal_number (rise_in rises i).moment m own.2) in
      omega (arith, ints, same))
    where
      parts : (i : ℕ) → (is_rise_of (rise_in rises i) f s && ((rise_in rises i).moment == m)) ≡ true → ((rise_in rises i).fleet ≡ f) × ((rise_in rises i).station ≡ s) × ((rise_in rises i).moment ≡ m)
      parts i e =
          let both = parts_true (is_rise_of (rise_in rises i) f s) ((rise_in rises i).moment == m) e in
          let place = parts_true ((rise_in rises i).fleet == f) ((rise_in rises i).station == s) both.0 in (
            eqb-true (rise_in rises i).fleet f place.0,
            eqb-true (rise_in rises i).station s place.1,
            eqb-true (rise_in rises i).moment m both.1,
          )

-- ---- moved prices
module _ (t : Tables) (prices : Prices) (rises : List Rise) (are : AreRises t rises) (apart : AreRisesApart rises) (covered : AreCovered t prices rises) (f s : ℕ) (known : f < fleets_in t) (within : s < stations_in t) where
  pub rises_at_moment : (m : ℕ) → m + 1 < period_of t → moved_price prices rises f s (m + 1) ≤ℤ (moved_price prices rises f s m +ℤ greatest_rise rises s m)
  rises_at_moment m in_period = omega (arith, ints, covered.within_period f s m known within in_period, all_rises t rises are f s m (m + 1) (next_minute t m in_period), went_once rises apart f s m)

  pub rises_over_end : moved_price prices rises f s 0 ≤ℤ (moved_price prices rises f s (last_of t) +ℤ rent_of prices f +ℤ greatest_rise rises s (last_of t))
  rises_over_end = omega (arith, ints, covered.over_end f s known within, all_rises t rises are f s (last_of t) 0 (next_period t), went_once rises apart f s (last_of t))
