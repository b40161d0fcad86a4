-- What prices say that are written as steps of minutes.
use Rattle.std.proofs.Common.{◌≡◌, ℕ, zero, suc, ◌+◌, ◌-◌, ◌<◌, ◌≤◌, Bool, true, false, cond, ◌==◌, ◌&&◌, nat_le, if◌then◌else◌, [], ◌∷◌, ℤ, pos, refl, sym, ◌∙◌, ap, subst, inl, inr, arith}
use Rattle.std.specs.Ordering.{int_eq}
use Rattle.std.proofs.lemmas.Bool.{cases_lt}
use Rattle.std.proofs.lemmas.Bool.Decides.{Decides-int_eq, nat_tests}
use Rattle.sums.proofs.Tests.{by_test, first_fails, first_true, not_false, second_true}
use Rattle.fleet_model.specs.Schedule.{fleets_in, period_of, stations_in}
use Rattle.fleet_model.specs.declared.tables.Tables.{Tables}
use Rattle.dual_bound.specs.Prices.{price_after}
use Rattle.dual_bound.specs.declared.prices.PriceStep.{PriceStep}
use Rattle.dual_bound.proofs.PriceLists.{price_after-append}
use Rattle.dual_bound.proofs.StepOrder.{has_come, has_not_come}
use Rattle.island_prices.specs.Steps.{all_zero, fleet_steps, is_minute_step, minute_step_where, station_steps, steps_below, steps_of}

-- ---- tests of steps

pub zero_before : (price : ℕ → ℤ) (n k : ℕ) → all_zero price n ≡ true → k < n → price k ≡ pos 0
unfolding all_zero
zero_before price zero k all below = absurd (omega arith)
zero_before price (suc n) k all below = elim (cases_lt k n) [
  | inl less ↦ zero_before price n k (first_true (all_zero price n) (int_eq (price n) (pos 0)) all) less
  | inr last ↦
      let same : n ≡ k = omega arith in
      subst (λ j. price j ≡ pos 0) same ((Decides-int_eq (price n) (pos 0)).0 (second_true (all_zero price n) (int_eq (price n) (pos 0)) all))
]

pub no_first : (minutes : ℕ) (price : ℕ → ℤ) → is_minute_step minutes price 0 ≡ false → all_zero price minutes ≡ true
unfolding is_minute_step
no_first minutes price e = not_false (all_zero price minutes) e

pub no_later : (minutes : ℕ) (price : ℕ → ℤ) (m : ℕ) → is_minute_step minutes price (suc m) ≡ false → price (suc m) ≡ price m
unfolding is_minute_step
no_later minutes price m e = (Decides-int_eq (price (suc m)) (price m)).0 (not_false (int_eq (price (suc m)) (price m)) e)

-- ---- the price after steps
abbrev pub step_at : (ℕ → ℤ) → ℕ → ℕ → ℕ → PriceStep
step_at price f s m = record { fleet = f; station = s; minute = m; value = price m }

-- a step that has come gives its value, and one that has not stays aside
stepped : (minutes : ℕ) (price : ℕ → ℤ) (f s a m : ℕ) (v : ℤ) → a ≤ m → is_minute_step minutes price a ≡ true → price_after v (minute_step_where minutes price f s a) f s m ≡ price a
unfolding price_after
stepped minutes price f s a m v order step =
    ap (λ b. price_after v (if b then step_at price f s a ∷ [] else []) f s m) step ∙ ap (λ b. cond b (price a) v) (has_come f s a m order)

aside : (minutes : ℕ) (price : ℕ → ℤ) (f s a m : ℕ) (v : ℤ) → m < a → price_after v (minute_step_where minutes price f s a) f s m ≡ v
unfolding price_after
aside minutes price f s a m v order = by_step (is_minute_step minutes price a)
  where
    by_step : (b : Bool) → price_after v (if b then step_at price f s a ∷ [] else []) f s m ≡ v
    by_step true = ap (λ b. cond b (price a) v) (has_not_come f s a m order)
    by_step false = refl

no_step : (minutes : ℕ) (price : ℕ → ℤ) (f s a m : ℕ) (v : ℤ) → is_minute_step minutes price a ≡ false → price_after v (minute_step_where minutes price f s a) f s m ≡ v
unfolding price_after
no_step minutes price f s a m v none = ap (λ b. price_after v (if b then step_at price f s a ∷ [] else []) f s m) none

after : (minutes : ℕ) (price : ℕ → ℤ) (f s m n : ℕ) (v : ℤ) → price_after v (steps_below minutes price f s (suc n)) f s m ≡ price_after (price_after v (steps_below minutes price f s n) f s m) (minute_step_where minutes price f s n) f s m
unfolding steps_below
after minutes price f s m n v = price_after-append v (steps_below minutes price f s n) (minute_step_where minutes price f s n) f s m

nothing_yet : (minutes : ℕ) (price : ℕ → ℤ) (f s m : ℕ) (v : ℤ) → price_after v (steps_below minutes price f s 0) f s m ≡ v
unfolding steps_below price_after
nothing_yet minutes price f s m v = refl

module _ (minutes : ℕ) (price : ℕ → ℤ) (f s m : ℕ) (period : m < minutes) where
  abbrev told : ℕ → ℤ
  told n = price_after (pos 0) (steps_below minutes price f s n) f s m

  first_told : told 1 ≡ price 0
  first_told = after minutes price f s m 0 (pos 0) ∙ ap (λ v. price_after v (minute_step_where minutes price f s 0) f s m) (nothing_yet minutes price f s m (pos 0)) ∙ by_test (is_minute_step minutes price 0)
      (λ e. stepped minutes price f s 0 m (pos 0) (omega arith) e)
      (λ e. no_step minutes price f s 0 m (pos 0) e ∙ sym (zero_before price minutes 0 (no_first minutes price e) (omega arith)))

  -- up to the minute each price is told
  told_by : (n : ℕ) → n ≤ m → told (suc n) ≡ price n
  told_by zero within = first_told
  told_by (suc n) within = after minutes price f s m (suc n) (pos 0) ∙ by_test (is_minute_step minutes price (suc n))
      (λ e. stepped minutes price f s (suc n) m (told (suc n)) within e)
      (λ e. no_step minutes price f s (suc n) m (told (suc n)) e ∙ told_by n (omega arith) ∙ sym (no_later minutes price n e))

  -- and what comes later stays aside
  told_past : (d : ℕ) → told (suc m + d) ≡ price m
  told_past zero = let same : suc m + 0 ≡ suc m = omega arith in ap told same ∙ told_by m (omega arith)
  told_past (suc d) = let next : suc m + suc d ≡ suc (suc m + d) = omega arith in
      ap told next ∙ after minutes price f s m (suc m + d) (pos 0) ∙ aside minutes price f s (suc m + d) m (told (suc m + d)) (omega arith) ∙ told_past d

  pub price_there : price_after (pos 0) (steps_below minutes price f s minutes) f s m ≡ price m
  price_there = ap told (whole minutes m period) ∙ told_past (minutes - suc m)
    where
      whole : (n m : ℕ) → m < n → n ≡ suc m + (n - suc m)
      whole n m below = omega arith

-- ---- steps of other places say nothing
elsewhere : (minutes : ℕ) (price : ℕ → ℤ) (f s g r a m : ℕ) (v : ℤ) → ((f == g) && (s == r)) ≡ false → price_after v (minute_step_where minutes price f s a) g r m ≡ v
unfolding price_after
elsewhere minutes price f s g r a m v other = by_step (is_minute_step minutes price a)
  where
    by_step : (b : Bool) → price_after v (if b then step_at price f s a ∷ [] else []) g r m ≡ v
    by_step true = first_fails ((f == g) && (s == r)) (nat_le a m) (price a) v other
    by_step false = refl

all_elsewhere : (minutes : ℕ) (price : ℕ → ℤ) (f s g r m n : ℕ) (v : ℤ) → ((f == g) && (s == r)) ≡ false → price_after v (steps_below minutes price f s n) g r m ≡ v
unfolding steps_below price_after
all_elsewhere minutes price f s g r m zero v other = refl
all_elsewhere minutes price f s g r m (suc n) v other =
    price_after-append v (steps_below minutes price f s n) (minute_step_where minutes price f s n) g r m
    ∙ elsewhere minutes price f s g r n m (price_after v (steps_below minutes price f s n) g r m) other ∙ all_elsewhere minutes price f s g r m n v other

-- ---- of a fleet at all stations
module _ (minutes : ℕ) (price : ℕ → ℕ → ℤ) (f s m : ℕ) (period : m < minutes) where
  abbrev by_stations : ℕ → ℤ
  by_stations n = price_after (pos 0) (station_steps minutes price f n) f s m

  one_station : (n : ℕ) → by_stations (suc n) ≡ price_after (by_stations n) (steps_below minutes (price n) f n minutes) f s m
  unfolding station_steps
  one_station n = price_after-append (pos 0) (station_steps minutes price f n) (steps_below minutes (price n) f n minutes) f s m

  not_there : (f s r : ℕ) → (r ≡ s → ⊥) → ((f == f) && (r == s)) ≡ false
  not_there f s r apart = grind (arith, nat_tests)

  before_station : (n : ℕ) → n ≤ s → by_stations n ≡ pos 0
  unfolding station_steps price_after
  before_station zero within = refl
  before_station (suc n) within =
      one_station n ∙ all_elsewhere minutes (price n) f n f s m minutes (by_stations n) (not_there f s n (λ e. omega (arith, e))) ∙ before_station n (omega arith)

  past_station : (d : ℕ) → by_stations (suc s + d) ≡ price s m
  past_station zero =
      let same : suc s + 0 ≡ suc s = omega arith in
      ap by_stations same ∙ one_station s ∙ ap (λ v. price_after v (steps_below minutes (price s) f s minutes) f s m) (before_station s (omega arith)) ∙ price_there minutes (price s) f s m period
  past_station (suc d) =
      let next : suc s + suc d ≡ suc (suc s + d) = omega arith in
      ap by_stations next ∙ one_station (suc s + d)
      ∙ all_elsewhere minutes (price (suc s + d)) f (suc s + d) f s m minutes (by_stations (suc s + d)) (not_there f s (suc s + d) (λ e. omega (arith, e))) ∙ past_station d

  pub price_of_station : (n : ℕ) → s < n → by_stations n ≡ price s m
  price_of_station n below = ap by_stations (whole n s below) ∙ past_station (n - suc s)
    where
      whole : (n m : ℕ) → m < n → n ≡ suc m + (n - suc m)
      whole n m below = omega arith

other_fleet : (minutes : ℕ) (price : ℕ → ℕ → ℤ) (f g s m n : ℕ) (v : ℤ) → (f ≡ g → ⊥) → price_after v (station_steps minutes price f n) g s m ≡ v
unfolding station_steps price_after
other_fleet minutes price f g s m zero v apart = refl
other_fleet minutes price f g s m (suc n) v apart =
    price_after-append v (station_steps minutes price f n) (steps_below minutes (price n) f n minutes) g s m
    ∙ all_elsewhere minutes (price n) f n g s m minutes (price_after v (station_steps minutes price f n) g s m) (not_there f g n s apart) ∙ other_fleet minutes price f g s m n v apart
  where
    not_there : (f g r s : ℕ) → (f ≡ g → ⊥) → ((f == g) && (r == s)) ≡ false
    not_there f g r s apart = grind (arith, nat_tests)

-- ---- of all fleets
module _ (t : Tables) (price : ℕ → ℕ → ℕ → ℤ) (f s m : ℕ) (within : s < stations_in t) (period : m < period_of t) where
  abbrev by_fleets : ℕ → ℤ
  by_fleets n = price_after (pos 0) (fleet_steps t price n) f s m

  one_fleet : (n : ℕ) → by_fleets (suc n) ≡ price_after (by_fleets n) (station_steps (period_of t) (price n) n (stations_in t)) f s m
  unfolding fleet_steps
  one_fleet n = price_after-append (pos 0) (fleet_steps t price n) (station_steps (period_of t) (price n) n (stations_in t)) f s m

  before_fleet : (n : ℕ) → n ≤ f → by_fleets n ≡ pos 0
  unfolding fleet_steps price_after
  before_fleet zero below = refl
  before_fleet (suc n) below = one_fleet n ∙ other_fleet (period_of t) (price n) n f s m (stations_in t) (by_fleets n) (λ e. omega (arith, e)) ∙ before_fleet n (omega arith)

  past_fleet : (d : ℕ) → by_fleets (suc f + d) ≡ price f s m
  past_fleet zero =
      let same : suc f + 0 ≡ suc f = omega arith in
      ap by_fleets same ∙ one_fleet f ∙ ap (λ v. price_after v (station_steps (period_of t) (price f) f (stations_in t)) f s m) (before_fleet f (omega arith)) ∙ price_of_station (period_of t) (price f) f s m period (stations_in t) within
  past_fleet (suc d) =
      let next : suc f + suc d ≡ suc (suc f + d) = omega arith in
      ap by_fleets next ∙ one_fleet (suc f + d) ∙ other_fleet (period_of t) (price (suc f + d)) (suc f + d) f s m (stations_in t) (by_fleets (suc f + d)) (λ e. omega (arith, e)) ∙ past_fleet d

  -- the price that steps of all prices tell
  pub price_is : f < fleets_in t → price_after (pos 0) (steps_of t price) f s m ≡ price f s m
  price_is known = ap by_fleets (whole (fleets_in t) f known) ∙ past_fleet (fleets_in t - suc f)
    where
      whole : (n m : ℕ) → m < n → n ≡ suc m + (n - suc m)
      whole n m below = omega arith
