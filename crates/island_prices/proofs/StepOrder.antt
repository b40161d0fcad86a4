-- Steps of minutes are in written order.
use Rattle.std.proofs.Common.{◌≡◌, ◌≢◌, ℕ, zero, suc, ◌-◌, ◌<◌, ◌≤◌, Bool, true, false, not, ◌==◌, ◌&&◌, if◌then◌else◌, List, [], ◌∷◌, ◌++◌, All, Some, None, ℤ, pos, refl, sym, ◌∙◌, ap, subst, inl, inr, append_assoc, append-nil, arith}
use Rattle.std.specs.Ordering.{int_eq}
use Rattle.std.proofs.lemmas.Bool.{eq-eqb}
use Rattle.std.proofs.lemmas.Bool.Decides.{Decides-int_eq, nat_tests}
use Rattle.std.proofs.lemmas.List.Elements.{All-append, All-cons, All-nil}
use Rattle.sums.proofs.Tests.{both_true, by_test, no_both, not_true}
use Rattle.fleet_model.specs.Schedule.{fleets_in, period_of, stations_in}
use Rattle.fleet_model.specs.declared.tables.Tables.{Tables}
use Rattle.fleet_model.proofs.PeriodMinutes.{some_minutes}
use Rattle.dual_bound.specs.Order.{same_place}
use Rattle.dual_bound.specs.WrittenOrder.{AreStepsInOrder, IsFigure, IsStepInOrder, NoLoneZero, StepsFollow, goes_on, is_lone_zero}
use Rattle.dual_bound.specs.declared.prices.PriceStep.{PriceStep}
use Rattle.dual_bound.proofs.StepOrder.{PlaceBefore, follows_other, follows_same}
use Rattle.island_prices.specs.Steps.{all_zero, fleet_steps, is_minute_step, minute_step_where, station_steps, steps_below, steps_of}
use Rattle.island_prices.proofs.StepPrices.{no_first, no_later, step_at, zero_before}

-- ---- tests

some_other : (price : ℕ → ℤ) (n : ℕ) → all_zero price n ≡ false → (q : ℕ) × (q < n) × (price q ≢ pos 0)
unfolding all_zero
some_other price zero none = absurd (no_both none refl)
some_other price (suc n) none = by_test (all_zero price n)
    (λ e. (n, omega arith, λ zero. no_both none (both_true (all_zero price n) (int_eq (price n) (pos 0)) e ((Decides-int_eq (price n) (pos 0)).1 zero))))
    (λ e. let at = some_other price n e in (at.0, omega (arith, at.1), at.2))

some_step : (minutes : ℕ) (price : ℕ → ℤ) → is_minute_step minutes price 0 ≡ true → all_zero price minutes ≡ false
unfolding is_minute_step
some_step minutes price e = not_true (all_zero price minutes) e

other_value : (minutes : ℕ) (price : ℕ → ℤ) (m : ℕ) → is_minute_step minutes price (suc m) ≡ true → price (suc m) ≢ price m
unfolding is_minute_step
other_value minutes price m e same = no_both (not_true (int_eq (price (suc m)) (price m)) e) ((Decides-int_eq (price (suc m)) (price m)).1 same)

-- ---- what may stand behind
-- .. a step
pub record MayCome (b : PriceStep) (rest : List PriceStep) : Type 0 where
  pub follow : StepsFollow (Some b) rest
  pub not_lone : is_lone_zero b rest ≡ false
  pub none_lone : NoLoneZero rest

-- .. steps of all places before one
pub record IsAhead (f s : ℕ) (rest : List PriceStep) : Type 0 where
  pub first : StepsFollow None rest
  pub behind : (b : PriceStep) → PlaceBefore b.fleet b.station f s → StepsFollow (Some b) rest
  pub none_lone : NoLoneZero rest

pub nothing_ahead : (f s : ℕ) → IsAhead f s []
nothing_ahead f s = record { first = tt; behind = λ b order. tt; none_lone = tt }

weaker : (f s g r : ℕ) (rest : List PriceStep) → ((a b : ℕ) → PlaceBefore a b f s → PlaceBefore a b g r) → IsAhead g r rest → IsAhead f s rest
weaker f s g r rest implies ahead = record { first = ahead.first; behind = λ b order. ahead.behind b (implies b.fleet b.station order); none_lone = ahead.none_lone }

-- ---- a row: the prices of a fleet at a station
module _ (minutes : ℕ) (price : ℕ → ℤ) (f s : ℕ) where
  -- the last step up to a minute; where it says 0 at the first minute, another price comes
  record IsLastBy (m : ℕ) (b : PriceStep) : Type 0 where
    fleet : b.fleet ≡ f
    station : b.station ≡ s
    minute : b.minute ≤ m
    value : b.value ≡ price m
    other : b.minute ≡ 0 → b.value ≡ pos 0 → (q : ℕ) × (m < q) × (q < minutes) × (price q ≢ pos 0)

  -- a step of this place that is followed by another one isn't the one step there
  lone_by : (a c g : Bool) → g ≡ true → (a && c && not g) ≡ false
  lone_by true true true e = refl
  lone_by true true false e = cc
  lone_by true false g e = refl
  lone_by false c g e = refl

  same : (b : PriceStep) (m : ℕ) → b.fleet ≡ f → b.station ≡ s → same_place b (step_at price f s m) ≡ true
  same b m fleet station = grind (arith, nat_tests)

  next_last : (m : ℕ) → suc m < minutes → IsLastBy (suc m) (step_at price f s (suc m))
  next_last m within = record { fleet = refl; station = refl; minute = omega arith; value = refl; other = λ e zero. absurd (omega (arith, e)) }

  goes_minute : (m : ℕ) (rest : List PriceStep) → suc m < minutes → ((b : PriceStep) → IsLastBy (suc m) b → MayCome b rest) → (b : PriceStep) → IsLastBy m b → MayCome b (minute_step_where minutes price f s (suc m) ++ rest)
  goes_minute m rest within next b last = by_test (is_minute_step minutes price (suc m))
      (λ e.
      let step = step_at price f s (suc m) in
      let may = next step (next_last m within) in
      subst (λ c. MayCome b ((if c then step ∷ [] else []) ++ rest)) (sym e) (record {
        follow = (follows_same b step last.fleet last.station (omega (arith, last.minute)) (λ same. other_value minutes price m e (sym same ∙ last.value)), may.follow);
        not_lone = lone_by (b.minute == 0) (int_eq b.value (pos 0)) (same_place b step) (same b (suc m) last.fleet last.station);
        none_lone = (may.not_lone, may.none_lone);
      }))
      (λ e. subst (λ c. MayCome b ((if c then step_at price f s (suc m) ∷ [] else []) ++ rest)) (sym e) (next b (record {
        fleet = last.fleet;
        station = last.station;
        minute = omega (arith, last.minute);
        value = last.value ∙ sym (no_later minutes price m e);
        other = λ first zero.
            let at = last.other first zero in
            let differ : at.0 ≢ suc m = λ same. at.3 (ap price same ∙ no_later minutes price m e ∙ sym last.value ∙ zero) in
            (at.0, omega (arith, at.1, differ), at.2, at.3);
      })))

  module _ (some : is_minute_step minutes price 0 ≡ true) where
    first_last : IsLastBy 0 (step_at price f s 0)
    first_last = record {
      fleet = refl;
      station = refl;
      minute = omega arith;
      value = refl;
      other = λ first zero.
          let at = some_other price minutes (some_step minutes price some) in
          let differ : at.0 ≢ 0 = λ same. at.2 (ap price same ∙ zero) in
          (at.0, omega (arith, differ), at.1, at.2);
    }

    goes_first : (rest : List PriceStep) → MayCome (step_at price f s 0) rest → IsAhead f s (step_at price f s 0 ∷ rest)
    goes_first rest may = record {
      first = (eq-eqb 0 0 refl, may.follow);
      behind = λ b order. (follows_other b (step_at price f s 0) order refl, may.follow);
      none_lone = (may.not_lone, may.none_lone);
    }

    goes_row : (m : ℕ) (rest : List PriceStep) → m < minutes → ((b : PriceStep) → IsLastBy m b → MayCome b rest) → IsAhead f s (steps_below minutes price f s (suc m) ++ rest)
    unfolding steps_below
    goes_row zero rest within may = subst (λ c. IsAhead f s ((if c then step_at price f s 0 ∷ [] else []) ++ rest)) (sym some) (goes_first rest (may (step_at price f s 0) first_last))
    goes_row (suc m) rest within may =
        subst (IsAhead f s) (sym (append_assoc (steps_below minutes price f s (suc m)) (minute_step_where minutes price f s (suc m)) rest))
        (goes_row m (minute_step_where minutes price f s (suc m) ++ rest) (omega arith) (goes_minute m rest within may))

  -- behind the row
  row_ends : (rest : List PriceStep) → IsAhead f (suc s) rest → (b : PriceStep) → IsLastBy (minutes - 1) b → MayCome b rest
  row_ends rest ahead b last = record {
    follow = ahead.behind b (inr (last.fleet, omega (arith, last.station)));
    not_lone = by_test (b.minute == 0)
        (λ e. by_test (int_eq b.value (pos 0))
        (λ z.
        let first : b.minute ≡ 0 = grind (arith, nat_tests) in
        let at = last.other first ((Decides-int_eq b.value (pos 0)).0 z) in
        absurd (omega (arith, at.1, at.2)))
        (λ z. second_false (b.minute == 0) (int_eq b.value (pos 0)) (not (goes_on b rest)) z))
        (λ e. first_false (b.minute == 0) (int_eq b.value (pos 0)) (not (goes_on b rest)) e);
    none_lone = ahead.none_lone;
  }
    where
      first_false : (a b c : Bool) → a ≡ false → (a && b && c) ≡ false
      first_false false b c e = refl
      first_false true b c e = cc

      second_false : (a b c : Bool) → b ≡ false → (a && b && c) ≡ false
      second_false true false c e = refl
      second_false true true c e = cc
      second_false false b c e = refl

  no_steps : (n : ℕ) → n ≤ minutes → is_minute_step minutes price 0 ≡ false → steps_below minutes price f s n ≡ []
  unfolding steps_below
  no_steps zero within none = refl
  no_steps (suc n) within none = ap (λ xs. xs ++ minute_step_where minutes price f s n) (no_steps n (omega arith) none) ∙ ap (λ c. if c then step_at price f s n ∷ [] else []) (not_here n within)
    where
      same_zero : (m : ℕ) → suc m < minutes → price (suc m) ≡ price m
      same_zero m below = zero_before price minutes (suc m) (no_first minutes price none) below ∙ sym (zero_before price minutes m (no_first minutes price none) (omega arith))

      not_here : (m : ℕ) → suc m ≤ minutes → is_minute_step minutes price m ≡ false
      not_here zero below = none
      not_here (suc m) below = by_test (is_minute_step minutes price (suc m)) (λ e. absurd (other_value minutes price m e (same_zero m (omega arith)))) (λ e. e)

  pub row_ahead : 0 < minutes → (rest : List PriceStep) → IsAhead f (suc s) rest → IsAhead f s (steps_below minutes price f s minutes ++ rest)
  row_ahead some rest ahead = by_test (is_minute_step minutes price 0)
      (λ e. subst (λ n. IsAhead f s (steps_below minutes price f s n ++ rest)) whole (goes_row e (minutes - 1) rest (omega (arith, some)) (row_ends rest ahead)))
      (λ e. subst (λ xs. IsAhead f s (xs ++ rest)) (sym (no_steps minutes (omega arith) e)) (weaker f s f (suc s) rest one_more ahead))
    where
      whole : suc (minutes - 1) ≡ minutes
      whole = omega (arith, some)

      one_more : (a b : ℕ) → PlaceBefore a b f s → PlaceBefore a b f (suc s)
      one_more a b (inl less) = inl less
      one_more a b (inr same) = inr (same.0, omega (arith, same.1))

-- ---- all rows
stations_ahead : (minutes : ℕ) (price : ℕ → ℕ → ℤ) (f n : ℕ) → 0 < minutes → (rest : List PriceStep) → IsAhead f n rest → IsAhead f 0 (station_steps minutes price f n ++ rest)
unfolding station_steps
stations_ahead minutes price f zero some rest ahead = ahead
stations_ahead minutes price f (suc n) some rest ahead =
    subst (IsAhead f 0) (sym (append_assoc (station_steps minutes price f n) (steps_below minutes (price n) f n minutes) rest))
    (stations_ahead minutes price f n some (steps_below minutes (price n) f n minutes ++ rest) (row_ahead minutes (price n) f n some rest ahead))

fleets_ahead : (t : Tables) (price : ℕ → ℕ → ℕ → ℤ) (n : ℕ) (rest : List PriceStep) → IsAhead n 0 rest → IsAhead 0 0 (fleet_steps t price n ++ rest)
unfolding fleet_steps
fleets_ahead t price zero rest ahead = ahead
fleets_ahead t price (suc n) rest ahead =
    subst (IsAhead 0 0) (sym (append_assoc (fleet_steps t price n) (station_steps (period_of t) (price n) n (stations_in t)) rest))
    (fleets_ahead t price n (station_steps (period_of t) (price n) n (stations_in t) ++ rest)
    (stations_ahead (period_of t) (price n) n (stations_in t) (some_minutes t) rest (weaker n (stations_in t) (suc n) 0 rest next_fleet ahead)))
  where
    next_fleet : (a b : ℕ) → PlaceBefore a b n (stations_in t) → PlaceBefore a b (suc n) 0
    next_fleet a b (inl less) = inl (omega (arith, less))
    next_fleet a b (inr same) = inl (omega (arith, same.0))

-- ---- each step
row_each : (t : Tables) (price : ℕ → ℤ) (f s n : ℕ) → f < fleets_in t → s < stations_in t → n ≤ period_of t → ((m : ℕ) → m < period_of t → IsFigure (price m)) → All (IsStepInOrder t) (steps_below (period_of t) price f s n)
unfolding steps_below
row_each t price f s zero known within period figures = All-nil (IsStepInOrder t)
row_each t price f s (suc n) known within period figures =
    All-append (IsStepInOrder t) (steps_below (period_of t) price f s n) (minute_step_where (period_of t) price f s n) (row_each t price f s n known within (omega arith) figures) (one (is_minute_step (period_of t) price n))
  where
    one : (c : Bool) → All (IsStepInOrder t) (if c then step_at price f s n ∷ [] else [])
    one true = All-cons (IsStepInOrder t) (step_at price f s n) [] (record { fleet = known; station = within; minute = omega arith; value = figures n (omega arith) }) (All-nil (IsStepInOrder t))
    one false = All-nil (IsStepInOrder t)

stations_each : (t : Tables) (price : ℕ → ℕ → ℤ) (f n : ℕ) → f < fleets_in t → n ≤ stations_in t → ((s m : ℕ) → s < stations_in t → m < period_of t → IsFigure (price s m)) → All (IsStepInOrder t) (station_steps (period_of t) price f n)
unfolding station_steps
stations_each t price f zero known within figures = All-nil (IsStepInOrder t)
stations_each t price f (suc n) known within figures =
    All-append (IsStepInOrder t) (station_steps (period_of t) price f n) (steps_below (period_of t) (price n) f n (period_of t)) (stations_each t price f n known (omega arith) figures)
    (row_each t (price n) f n (period_of t) known (omega arith) (omega arith) (λ m period. figures n m (omega arith) period))

fleets_each : (t : Tables) (price : ℕ → ℕ → ℕ → ℤ) (n : ℕ) → n ≤ fleets_in t → ((f s m : ℕ) → f < fleets_in t → s < stations_in t → m < period_of t → IsFigure (price f s m)) → All (IsStepInOrder t) (fleet_steps t price n)
unfolding fleet_steps
fleets_each t price zero within figures = All-nil (IsStepInOrder t)
fleets_each t price (suc n) within figures =
    All-append (IsStepInOrder t) (fleet_steps t price n) (station_steps (period_of t) (price n) n (stations_in t)) (fleets_each t price n (omega arith) figures)
    (stations_each t (price n) n (stations_in t) (omega arith) (omega arith) (λ s m inside period. figures n s m (omega arith) inside period))

-- steps of all prices are in written order
pub steps_in_order : (t : Tables) (price : ℕ → ℕ → ℕ → ℤ) → ((f s m : ℕ) → f < fleets_in t → s < stations_in t → m < period_of t → IsFigure (price f s m)) → AreStepsInOrder t (steps_of t price)
steps_in_order t price figures =
    let ahead : IsAhead 0 0 (steps_of t price) = subst (IsAhead 0 0) (append-nil (steps_of t price)) (fleets_ahead t price (fleets_in t) [] (nothing_ahead (fleets_in t) 0)) in
    record { each = fleets_each t price (fleets_in t) (omega arith) figures; follow = ahead.first; no_lone_zero = ahead.none_lone }
