-- Steps of prices in written order, for the crates above.
use Rattle.std.proofs.Common.{◌≡◌, ◌≢◌, ℕ, ◌<◌, ◌≤◌, Bool, true, false, not, ◌==◌, ◌&&◌, nat_le, nat_lt, if◌then◌else◌, Some, pos, ap, ◌⊎◌, inl, inr, arith}
use Rattle.std.specs.Ordering.{int_eq}
use Rattle.std.proofs.lemmas.Bool.{eq-eqb}
use Rattle.std.proofs.lemmas.Bool.Decides.{Decides-int_eq, nat_tests}
use Rattle.std.proofs.lemmas.Int.{ints}
use Rattle.sums.proofs.Tests.{both_true, by_test}
use Rattle.dual_bound.specs.Order.{same_place, step_follows, step_place_before}
use Rattle.dual_bound.specs.WrittenOrder.{IsFigure}
use Rattle.dual_bound.specs.declared.prices.PriceStep.{PriceStep}

pub zero_figure : IsFigure (pos 0)
zero_figure = record { no_less = omega (arith, ints); no_more = omega (arith, ints) }

pub one_figure : IsFigure (pos 1)
one_figure = record { no_less = omega (arith, ints); no_more = omega (arith, ints) }

-- ---- a step that has come by a minute at its own place, and one that hasn't
pub has_come : (f s a m : ℕ) → a ≤ m → ((f == f) && (s == s) && nat_le a m) ≡ true
has_come f s a m order = grind (arith, nat_tests)

pub has_not_come : (f s a m : ℕ) → m < a → ((f == f) && (s == s) && nat_le a m) ≡ false
has_not_come f s a m order = grind (arith, nat_tests)

-- ---- a step behind another
pub same_place_by : (a b : PriceStep) → a.fleet ≡ b.fleet → a.station ≡ b.station → same_place a b ≡ true
same_place_by a b fleet station = grind (arith, nat_tests)

pub follows_same : (a b : PriceStep) → a.fleet ≡ b.fleet → a.station ≡ b.station → a.minute < b.minute → a.value ≢ b.value → step_follows (Some a) b ≡ true
follows_same a b fleet station minute value = by_same (same_place a b) (same_place_by a b fleet station)
  where
    less : nat_lt a.minute b.minute ≡ true
    less = grind (arith, nat_tests)

    differs : int_eq a.value b.value ≡ false
    differs = by_test (int_eq a.value b.value) (λ e. absurd (value ((Decides-int_eq a.value b.value).0 e))) (λ e. e)

    by_same : (c : Bool) → c ≡ true → (if c then nat_lt a.minute b.minute && not (int_eq a.value b.value) else step_place_before a b && (b.minute == 0)) ≡ true
    by_same true e = both_true (nat_lt a.minute b.minute) (not (int_eq a.value b.value)) less (ap not differs)
    by_same false e = cc

-- a place comes before another: by fleet, then by station
abbrev pub PlaceBefore : ℕ → ℕ → ℕ → ℕ → Type 0
PlaceBefore f s g r = (f < g) ⊎ ((f ≡ g) × (s < r))

apart : (a b : PriceStep) → PlaceBefore a.fleet a.station b.fleet b.station → same_place a b ≡ false
apart a b (inl less) = grind (arith, nat_tests)
apart a b (inr same) = let station = same.1 in grind (arith, nat_tests)

pub follows_other : (a b : PriceStep) → PlaceBefore a.fleet a.station b.fleet b.station → b.minute ≡ 0 → step_follows (Some a) b ≡ true
follows_other a b order first = by_same (same_place a b) (apart a b order)
  where
    placed : PlaceBefore a.fleet a.station b.fleet b.station → step_place_before a b ≡ true
    placed (inl less) = grind (arith, nat_tests)
    placed (inr same) = let fleet = same.0 in let station = same.1 in grind (arith, nat_tests)

    by_same : (c : Bool) → c ≡ false → (if c then nat_lt a.minute b.minute && not (int_eq a.value b.value) else step_place_before a b && (b.minute == 0)) ≡ true
    by_same true e = cc
    by_same false e = both_true (step_place_before a b) (b.minute == 0) (placed order) (eq-eqb b.minute 0 first)
