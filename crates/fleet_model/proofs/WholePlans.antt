-- A whole mixed plan is a legal assignment of kept pairs.
use Rattle.std.proofs.Common.{◌≡◌, ◌≢◌, ℕ, zero, suc, ◌+◌, ◌*◌, ◌<◌, max, Bool, true, false, not, if◌then◌else◌, ◌==◌, List, sym, ◌∙◌, ap, subst, inl, inr, arith, mul-add}
use Rattle.std.proofs.Math.Nat.{mul-sub}
use Rattle.std.proofs.lemmas.Bool.{cases_lt}
use Rattle.std.proofs.lemmas.Bool.Decides.{nat_tests}
use Rattle.sums.specs.Below.{sum_below, max_below}
use Rattle.sums.specs.Places.{list_below}
use Rattle.sums.proofs.Maxima.{max_below-suc, max_below-zero}
use Rattle.sums.proofs.Places.{get_or-list_below, length-list_below}
use Rattle.sums.proofs.SumBounds.{term_le}
use Rattle.sums.proofs.Naturals.{by_number, cancel_le, cancel_same, times_below, times_max}
use Rattle.sums.proofs.Tests.{by_test}
use Rattle.fleet_model.specs.declared.parts.Pair.{Pair}
use Rattle.fleet_model.specs.declared.tables.Tables.{Tables}
use Rattle.fleet_model.specs.Counts.{Weights, arrived, coming, departed, choice_at, has_come, has_left, leaving, pair_at, weights_of}
use Rattle.fleet_model.specs.Kept.{Domains}
use Rattle.fleet_model.specs.Legal.{IsAssignment, IsLegal}
use Rattle.fleet_model.specs.Mixed.{IsMixedPlan}
use Rattle.fleet_model.specs.Schedule.{IsPair, choices_in, day_end, departures_in, fleet_of, fleets_in, last_of, leg_on, legs_in, pair_on, period_of, stations_in}
use Rattle.fleet_model.specs.Times.{laps_of}
use Rattle.fleet_model.specs.Use.{excess, laps_at, laps_flown, need_of, parked, stand_of, used_of}
use Rattle.fleet_model.specs.Whole.{IsLegalBy, IsWhole, KeepAllowed, WholeIsLegal}
use Rattle.fleet_model.proofs.Choices.{on_departure}

-- ---- products with a factor

times_most : (c : ℕ) (f g : ℕ → ℕ) (n : ℕ) → ((k : ℕ) → k < n → f k ≡ c * g k) → max_below f n ≡ c * max_below g n
times_most c f g zero each = omega (arith, max_below-zero f, max_below-zero g, ap (λ m. c * m) (max_below-zero g))
times_most c f g (suc n) each =
    max_below-suc f n
    ∙ ap (λ m. max m (f n)) (times_most c f g n (λ k below. each k (omega arith)))
    ∙ ap (max (c * max_below g n)) (each n (omega arith))
    ∙ times_max c (max_below g n) (g n)
    ∙ sym (ap (λ m. c * m) (max_below-suc g n))

times_if : (b : Bool) (c v n : ℕ) → n ≡ c * v → (if b then n else 0) ≡ c * (if b then v else 0)
times_if true c v n e = e
times_if false c v n e = omega arith

-- ---- counts of weights that are so many times others
module _ (t : Tables) (c : ℕ) (w u : Weights) (f : ℕ) (same : (d : ℕ) → d < departures_in t → w (pair_on t d f) ≡ c * u (pair_on t d f)) where
  pub times_departed : (s m : ℕ) → departed t w f s m ≡ c * departed t u f s m
  unfolding departed
  times_departed s m = times_below c (leaving t w f s m) (leaving t u f s m) (departures_in t) (λ d below. times_if (has_left t (pair_on t d f) s m) c (u (pair_on t d f)) (w (pair_on t d f)) (same d below))

  pub times_arrived : (s m : ℕ) → arrived t w f s m ≡ c * arrived t u f s m
  unfolding arrived
  times_arrived s m = times_below c (coming t w f s m) (coming t u f s m) (departures_in t) (λ d below. times_if (has_come t (pair_on t d f) s m) c (u (pair_on t d f)) (w (pair_on t d f)) (same d below))

  times_need : (s : ℕ) → need_of t w f s ≡ c * need_of t u f s
  unfolding need_of excess
  times_need s = times_most c (excess t w f s) (excess t u f s) (period_of t) (λ m within. omega (arith, times_departed s m, times_arrived s m, mul-sub c (departed t u f s m) (arrived t u f s m)))

  times_laps : laps_flown t w f ≡ c * laps_flown t u f
  unfolding laps_flown
  times_laps = times_below c (laps_at t w f) (laps_at t u f) (departures_in t) (λ d below. ap (λ n. n * laps_of t (pair_on t d f)) (same d below) ∙ regroup c (u (pair_on t d f)) (laps_of t (pair_on t d f)))
    where
      regroup : (a b d : ℕ) → a * b * d ≡ a * (b * d)
      regroup zero b d = omega arith
      regroup (suc a) b d = grind (arith, regroup a b d)

  pub times_used : used_of t w f ≡ c * used_of t u f
  unfolding used_of
  times_used = omega (arith, times_below c (need_of t w f) (need_of t u f) (stations_in t) (λ s within. times_need s), times_laps, mul-add c (sum_below (need_of t u f) (stations_in t)) (laps_flown t u f))

-- ---- .. at all fleets
module _ (t : Tables) (c : ℕ) (w u : Weights) (same : (f d : ℕ) → f < fleets_in t → d < departures_in t → w (pair_on t d f) ≡ c * u (pair_on t d f)) where
  times_stand : (f s m : ℕ) → f < fleets_in t → stand_of t w f s m ≡ c * stand_of t u f s m
  unfolding stand_of
  times_stand f s m known = omega (
    arith,
    times_need t c w u f (λ d. same f d known) s,
    times_arrived t c w u f (λ d. same f d known) s m,
    times_departed t c w u f (λ d. same f d known) s m,
    mul-add c (need_of t u f s) (arrived t u f s m),
    mul-sub c (need_of t u f s + arrived t u f s m) (departed t u f s m),
  )

  pub times_parked : (s d : ℕ) → parked t w s d ≡ c * parked t u s d
  unfolding parked
  times_parked s d = times_below c (λ f. stand_of t w f s (day_end d)) (λ f. stand_of t u f s (day_end d)) (fleets_in t) (λ f known. times_stand f s (day_end d) known)

-- ---- the choice of a leg
-- the last number below n that passes
abbrev chosen : (ℕ → Bool) → ℕ → ℕ
chosen p zero = 0
chosen p (suc n) = if p n then n else chosen p n

-- one number is the scale and all others are 0
record IsOneOf (g : ℕ → ℕ) (scale n place : ℕ) : Type 0 where
  within : place < n
  each : (k : ℕ) → k < n → g k ≡ scale * (if place == k then 1 else 0)

at_other : (scale place k : ℕ) → place ≢ k → scale * (if place == k then 1 else 0) ≡ 0
at_other scale place k differ = let off : ◌≡◌ {A = ℕ} (if place == k then 1 else 0) 0 = grind (arith, nat_tests) in rw off (omega arith)

at_itself : (scale k : ℕ) → scale * (if k == k then 1 else 0) ≡ scale
at_itself scale k = let on : ◌≡◌ {A = ℕ} (if k == k then 1 else 0) 1 = grind (arith, nat_tests) in rw on (omega arith)

skips : (m n k : ℕ) → m ≡ 0 → ◌≡◌ {A = ℕ} (if not (m == 0) then n else k) k
skips m n k e = grind (arith, nat_tests)

takes : (m n k : ℕ) → m ≢ 0 → ◌≡◌ {A = ℕ} (if not (m == 0) then n else k) n
takes m n k e = grind (arith, nat_tests)

-- numbers that are each 0 or the scale, and sum to the scale
one_of : (g : ℕ → ℕ) (scale n : ℕ) → 0 < scale → ((k : ℕ) → k < n → g k ≢ 0 → g k ≡ scale) → sum_below g n ≡ scale → IsOneOf g scale n (chosen (λ k. not (g k == 0)) n)
one_of g scale zero some whole sum = absurd (omega arith)
one_of g scale (suc n) some whole sum = by_number (g n)
    (λ none.
    let front = one_of g scale n some (λ k below. whole k (omega arith)) (omega arith) in
    subst (IsOneOf g scale (suc n)) (sym (skips (g n) n (chosen (λ k. not (g k == 0)) n) none)) (record {
      within = omega (arith, front.within);
      each = λ k below. elim (cases_lt k n) [
        | inl before ↦ front.each k before
        | inr last ↦
            let same : k ≡ n = omega arith in
            let elsewhere : chosen (λ j. not (g j == 0)) n ≢ k = omega (arith, front.within) in
            ap g same ∙ none ∙ sym (at_other scale (chosen (λ j. not (g j == 0)) n) k elsewhere)
      ];
    }))
    (λ all.
    let here = whole n (omega arith) all in
    subst (IsOneOf g scale (suc n)) (sym (takes (g n) n (chosen (λ k. not (g k == 0)) n) all)) (record {
      within = omega arith;
      each = λ k below. elim (cases_lt k n) [
        | inl before ↦
            let elsewhere : n ≢ k = omega arith in
            let nothing : g k ≡ 0 = omega (arith, term_le g k n before, here) in
            nothing ∙ sym (at_other scale n k elsewhere)
        | inr last ↦ let same : k ≡ n = omega arith in rw same (here ∙ sym (at_itself scale n))
      ];
    }))

module _ (t : Tables) (keeps : Domains) (scale : ℕ) (w : Weights) (some : 0 < scale) (allowed : KeepAllowed t keeps) (plan : IsMixedPlan t keeps scale w) (whole : IsWhole t scale w) where
  abbrev fleet_for : ℕ → ℕ
  fleet_for l = chosen (λ c. not (w (leg_on l c) == 0)) (choices_in t l)

  abbrev fleets : List ℕ
  fleets = list_below fleet_for (legs_in t)

  one_fleet : (l : ℕ) → l < legs_in t → IsOneOf (λ c. w (leg_on l c)) scale (choices_in t l) (fleet_for l)
  one_fleet l below = one_of (λ c. w (leg_on l c)) scale (choices_in t l) some (λ c known. whole.each (leg_on l c) (record { leg = below; choice = known })) (plan.cover l below)

  fleet_there : (l : ℕ) → l < legs_in t → choice_at fleets l ≡ fleet_for l
  fleet_there l below = get_or-list_below fleet_for (legs_in t) l 0 below

  weights_there : (p : Pair) → IsPair t p → w p ≡ scale * weights_of fleets p
  weights_there p known =
      subst (λ j. w p ≡ scale * (if j == p.choice then 1 else 0)) (sym (fleet_there p.leg known.leg)) ((one_fleet p.leg known.leg).each p.choice known.choice)

  known_there : (l : ℕ) → l < legs_in t → choice_at fleets l < choices_in t l
  known_there l below = subst (λ j. j < choices_in t l) (sym (fleet_there l below)) (one_fleet l below).within

  kept_there : (l : ℕ) → l < legs_in t → keeps (pair_at fleets l) ≡ true
  kept_there l below = by_test (keeps (pair_at fleets l)) (λ kept. kept) (λ not_kept.
      let pair : IsPair t (pair_at fleets l) = record { leg = below; choice = known_there l below } in
      absurd (omega (arith, plan.kept (pair_at fleets l) pair not_kept, weights_there (pair_at fleets l) pair, at_itself scale (choice_at fleets l))))

  same_weights : (f d : ℕ) → f < fleets_in t → d < departures_in t → w (pair_on t d f) ≡ scale * weights_of fleets (pair_on t d f)
  same_weights f d known below = weights_there (pair_on t d f) (on_departure t d f below known).pair

  is_assignment : IsAssignment t fleets
  is_assignment = record { each_leg = length-list_below fleet_for (legs_in t); known = known_there }

  is_legal : IsLegal t fleets
  is_legal = record {
    assignment = is_assignment;
    allowed = record { each = λ l below. allowed.each (pair_at fleets l) (record { leg = below; choice = known_there l below }) (kept_there l below) };
    balanced = record {
      each = λ f s known within. cancel_same scale (arrived t (weights_of fleets) f s (last_of t)) (departed t (weights_of fleets) f s (last_of t)) some
          (sym (times_arrived t scale w (weights_of fleets) f (λ d. same_weights f d known) s (last_of t)) ∙ plan.balanced.each f s known within
          ∙ times_departed t scale w (weights_of fleets) f (λ d. same_weights f d known) s (last_of t));
    };
    within = record {
      each = λ f known. cancel_le scale (used_of t (weights_of fleets) f) (fleet_of t f).aircraft some
          (omega (arith, times_used t scale w (weights_of fleets) f (λ d. same_weights f d known), plan.within f known));
    };
    room = record {
      each = λ s d limit known first within is. omega (
        arith,
        cancel_le scale (parked t (weights_of fleets) s d) limit some
            (omega (arith, times_parked t scale w (weights_of fleets) same_weights s d, plan.room.each s d limit known first within is)),
      );
    };
  }

  is_legal_by : IsLegalBy t keeps scale w fleets
  is_legal_by = record {
    kept = record { assignment = is_assignment; kept = kept_there };
    legal = is_legal;
    weights = weights_there;
  }

pub whole_is_legal : WholeIsLegal
whole_is_legal t keeps scale w some allowed plan whole = (fleets t keeps scale w some allowed plan whole, is_legal_by t keeps scale w some allowed plan whole)
