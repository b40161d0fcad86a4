-- The prices of a reason are in written order.
use Rattle.std.proofs.Common.{◌≡◌, ℕ, zero, suc, ◌+◌, ◌<◌, ◌≤◌, Bool, true, false, not, if◌then◌else◌, ◌==◌, ◌&&◌, ◌||◌, nat_lt, List, [], ◌∷◌, ◌++◌, All, length, get_or, Option, Some, None, ℤ, pos, negsuc, refl, sym, ap, ◌∙◌, subst, arith}
use Rattle.std.specs.Ordering.{int_eq}
use Rattle.std.proofs.lemmas.Bool.Decides.{nat_tests}
use Rattle.std.proofs.lemmas.Int.{ints}
use Rattle.std.proofs.lemmas.List.Elements.{All-append, All-nil, All-from_recursion}
use Rattle.sums.specs.Places.{list_below}
use Rattle.sums.proofs.Places.{get_or-list_below, length-list_below}
use Rattle.fleet_model.specs.Schedule.{IsPair, fleet_by, fleets_in, last_of, leg_of, no_leg, stations_in}
use Rattle.fleet_model.specs.Times.{departure}
use Rattle.fleet_model.specs.declared.parts.Pair.{Pair}
use Rattle.fleet_model.specs.declared.tables.Tables.{Tables}
use Rattle.dual_bound.specs.Order.{step_follows}
use Rattle.dual_bound.specs.WrittenOrder.{ArePricesInOrder, AreStepsInOrder, IsFigure, IsStepInOrder, NoLoneZero, StepsFollow, goes_on}
use Rattle.dual_bound.specs.declared.prices.Prices.{Prices}
use Rattle.dual_bound.specs.declared.prices.PriceStep.{PriceStep}
use Rattle.dual_bound.proofs.NoCharges.{none_in_order}
use Rattle.dual_bound.proofs.StepOrder.{one_figure, zero_figure}
use Rattle.presolve.specs.Reasons.{reason_rent, reason_steps, steps_until, steps_until_minute}
use Rattle.presolve.specs.declared.rule.Rule.{Rule}
use Rattle.presolve.specs.declared.rule.Rule.TheVariants as rule

less_figure : IsFigure (negsuc 0)
less_figure = record { no_less = omega (arith, ints); no_more = omega (arith, ints) }

rent_figure : (why : Rule) (own f : ℕ) → IsFigure (reason_rent why own f)
rent_figure rule.NoArrival own f = zero_figure
rent_figure rule.NoDeparture own f = zero_figure
rent_figure rule.TooFewAircraft own f = either (f == own)
  where
    either : (b : Bool) → IsFigure (if b then pos 1 else pos 0)
    either true = one_figure
    either false = zero_figure

abbrev step_of : ℕ → ℕ → ℕ → ℤ → PriceStep
step_of f s m z = record { fleet = f; station = s; minute = m; value = z }

-- ---- steps that follow
-- the last of steps, or what stands before them
last_step : Option PriceStep → List PriceStep → Option PriceStep
last_step before [] = before
last_step before (step ∷ steps) = last_step (Some step) steps

last_append : (before : Option PriceStep) (xs ys : List PriceStep) → last_step before (xs ++ ys) ≡ last_step (last_step before xs) ys
unfolding last_step
last_append before [] ys = refl
last_append before (x ∷ xs) ys = last_append (Some x) xs ys

follow_append : (before : Option PriceStep) (xs ys : List PriceStep) → StepsFollow before xs → StepsFollow (last_step before xs) ys → StepsFollow before (xs ++ ys)
unfolding last_step
follow_append before [] ys left right = right
follow_append before (x ∷ xs) ys left right = (left.0, follow_append (Some x) xs ys left.1 right)

-- a first step follows those of the stations before
abbrev MayFollow : ℕ → Option PriceStep → ℕ → Type 0
MayFollow fleet before station = (s : ℕ) → station ≤ s → step_follows before (step_of fleet s 0 (pos 1)) ≡ true

next_place : (fleet station minute s : ℕ) (z : ℤ) → station + 1 ≤ s → step_follows (Some (step_of fleet station minute z)) (step_of fleet s 0 (pos 1)) ≡ true
next_place fleet station minute s z later =
    by_test (fleet == fleet) (station == s) (nat_lt fleet fleet || ((fleet == fleet) && nat_lt station s)) (nat_lt minute 0 && not (int_eq z (pos 1))) (grind (arith, nat_tests)) (grind (arith, nat_tests))
  where
    by_test : (fleets stations ahead value : Bool) → stations ≡ false → ahead ≡ true → (if fleets && stations then value else ahead && true) ≡ true
    by_test true false true value e f = refl
    by_test false false true value e f = refl
    by_test fleets true ahead value e f = cc
    by_test fleets false false value e f = cc

later_minute : (fleet station minute : ℕ) → step_follows (Some (step_of fleet station 0 (pos 1))) (step_of fleet station (minute + 1) (pos 0)) ≡ true
later_minute fleet station minute =
    by_test (fleet == fleet) (station == station) (nat_lt 0 (minute + 1)) ((nat_lt fleet fleet || ((fleet == fleet) && nat_lt station station)) && (minute + 1 == 0)) (grind (arith, nat_tests)) (grind (arith, nat_tests)) (grind (arith, nat_tests))
  where
    by_test : (fleets stations later other : Bool) → fleets ≡ true → stations ≡ true → later ≡ true → (if fleets && stations then later && true else other) ≡ true
    by_test true true true other e f g = refl
    by_test false stations later other e f g = cc
    by_test true false later other e f g = cc
    by_test true true false other e f g = cc

module _ (t : Tables) (fleet minute : ℕ) where
  -- at one station
  there_follow : (before : Option PriceStep) (station : ℕ) (b : Bool) → MayFollow fleet before station
      → StepsFollow before (step_of fleet station 0 (pos 1) ∷ (if b then step_of fleet station (minute + 1) (pos 0) ∷ [] else []))
  there_follow before station true may = (may station (omega arith), (later_minute fleet station minute, tt))
  there_follow before station false may = (may station (omega arith), tt)

  behind_there : (before : Option PriceStep) (station : ℕ) (b : Bool)
      → MayFollow fleet (last_step before (step_of fleet station 0 (pos 1) ∷ (if b then step_of fleet station (minute + 1) (pos 0) ∷ [] else []))) (suc station)
  unfolding last_step
  behind_there before station true s later = next_place fleet station (minute + 1) s (pos 0) (omega arith)
  behind_there before station false s later = next_place fleet station 0 s (pos 1) (omega arith)

  -- at all stations below a number
  behind_all : (n : ℕ) → MayFollow fleet (last_step None (steps_until t fleet minute n)) n
  unfolding last_step steps_until
  behind_all zero s later = refl
  behind_all (suc n) s later =
      subst (λ o. MayFollow fleet o (suc n)) (sym (last_append None (steps_until t fleet minute n) (steps_until_minute t fleet minute n))) (behind_there (last_step None (steps_until t fleet minute n)) n (nat_lt minute (last_of t))) s later

  all_follow : (n : ℕ) → StepsFollow None (steps_until t fleet minute n)
  unfolding steps_until
  all_follow zero = tt
  all_follow (suc n) =
      follow_append None (steps_until t fleet minute n) (steps_until_minute t fleet minute n) (all_follow n) (there_follow (last_step None (steps_until t fleet minute n)) n (nat_lt minute (last_of t)) (behind_all n))

-- ---- no lone step of 0
-- no step says 0 at the first minute
abbrev NoneZero : List PriceStep → Type 0
NoneZero [] = Unit {0}
NoneZero (step ∷ steps) = (((step.minute == 0) && int_eq step.value (pos 0)) ≡ false) × NoneZero steps

none_append : (xs ys : List PriceStep) → NoneZero xs → NoneZero ys → NoneZero (xs ++ ys)
none_append [] ys left right = right
none_append (x ∷ xs) ys left right = (left.0, none_append xs ys left.1 right)

none_alone : (xs : List PriceStep) → NoneZero xs → NoLoneZero xs
none_alone [] none = tt
none_alone (x ∷ xs) none = (whatever (x.minute == 0) (int_eq x.value (pos 0)) (goes_on x xs) none.0, none_alone xs none.1)
  where
    whatever : (a b c : Bool) → (a && b) ≡ false → ((a && b) && not c) ≡ false
    whatever true true c e = cc
    whatever true false c e = refl
    whatever false b c e = refl

none_zero : (t : Tables) (fleet minute n : ℕ) → NoneZero (steps_until t fleet minute n)
unfolding steps_until
none_zero t fleet minute zero = tt
none_zero t fleet minute (suc n) = none_append (steps_until t fleet minute n) (steps_until_minute t fleet minute n) (none_zero t fleet minute n) (there (nat_lt minute (last_of t)))
  where
    no_minute : (b : Bool) → b ≡ false → (b && true) ≡ false
    no_minute false e = refl
    no_minute true e = cc

    there : (b : Bool) → NoneZero (step_of fleet n 0 (pos 1) ∷ (if b then step_of fleet n (minute + 1) (pos 0) ∷ [] else []))
    there true = (refl, (no_minute (minute + 1 == 0) (grind (arith, nat_tests)), tt))
    there false = (refl, tt)

-- ---- each step
each_in_order : (t : Tables) (fleet minute n : ℕ) → fleet < fleets_in t → n ≤ stations_in t → All (IsStepInOrder t) (steps_until t fleet minute n)
unfolding steps_until
each_in_order t fleet minute zero known within = All-nil (IsStepInOrder t)
each_in_order t fleet minute (suc n) known within =
    All-append (IsStepInOrder t) (steps_until t fleet minute n) (steps_until_minute t fleet minute n) (each_in_order t fleet minute n known (omega arith)) (there (nat_lt minute (last_of t)) (λ e. grind (arith, nat_tests)))
  where
    first : IsStepInOrder t (step_of fleet n 0 (pos 1))
    first = record { fleet = known; station = omega arith; minute = omega arith; value = one_figure }

    there : (b : Bool) → (b ≡ true → minute + 1 ≤ last_of t) → All (IsStepInOrder t) (step_of fleet n 0 (pos 1) ∷ (if b then step_of fleet n (minute + 1) (pos 0) ∷ [] else []))
    there true early = All-from_recursion (IsStepInOrder t) (step_of fleet n 0 (pos 1) ∷ step_of fleet n (minute + 1) (pos 0) ∷ [])
        (first, (record { fleet = known; station = omega arith; minute = early refl; value = zero_figure }, tt))
    there false early = All-from_recursion (IsStepInOrder t) (step_of fleet n 0 (pos 1) ∷ []) (first, tt)

-- one step all period
one_in_order : (t : Tables) (fleet station : ℕ) (z : ℤ) → fleet < fleets_in t → station < stations_in t → IsFigure z → int_eq z (pos 0) ≡ false → AreStepsInOrder t (step_of fleet station 0 z ∷ [])
one_in_order t fleet station z known there figure some = record {
  each = All-from_recursion (IsStepInOrder t) (step_of fleet station 0 z ∷ []) (record { fleet = known; station = there; minute = omega arith; value = figure }, tt);
  follow = (refl, tt);
  no_lone_zero = none_alone (step_of fleet station 0 z ∷ []) (some, tt);
}

steps_in_order : (t : Tables) (why : Rule) (p : Pair) → IsPair t p → fleet_by t p < fleets_in t → AreStepsInOrder t (reason_steps t why p)
steps_in_order t rule.NoArrival p pair flies = one_in_order t (fleet_by t p) (leg_of t p.leg).from (pos 1) flies (t.in_range.legs_fit.each p.leg no_leg pair.leg).from one_figure refl
steps_in_order t rule.NoDeparture p pair flies = one_in_order t (fleet_by t p) (leg_of t p.leg).to (negsuc 0) flies (t.in_range.legs_fit.each p.leg no_leg pair.leg).to less_figure refl
steps_in_order t rule.TooFewAircraft p pair flies = record {
  each = each_in_order t (fleet_by t p) (departure t p) (stations_in t) flies (omega arith);
  follow = all_follow t (fleet_by t p) (departure t p) (stations_in t);
  no_lone_zero = none_alone (steps_until t (fleet_by t p) (departure t p) (stations_in t)) (none_zero t (fleet_by t p) (departure t p) (stations_in t));
}

pub reason_in_order : (t : Tables) (why : Rule) (p : Pair) (prices : Prices) → IsPair t p → fleet_by t p < fleets_in t → prices.scale ≡ pos 1 → prices.rents ≡ list_below (reason_rent why (fleet_by t p)) (fleets_in t)
    → prices.steps ≡ reason_steps t why p → prices.charges ≡ [] → ArePricesInOrder t prices
reason_in_order t why p prices pair flies one rents steps none = record {
  scale = subst IsFigure (sym one) one_figure;
  one_each = ap length rents ∙ length-list_below (reason_rent why (fleet_by t p)) (fleets_in t);
  rents = subst (λ xs. All IsFigure xs) (sym rents) (λ k d below. figure_at k d (bound k below));
  steps = subst (λ xs. AreStepsInOrder t xs) (sym steps) (steps_in_order t why p pair flies);
  charges = none_in_order t prices none;
}
  where
    bound : (k : ℕ) → k < length (list_below (reason_rent why (fleet_by t p)) (fleets_in t)) → k < fleets_in t
    bound k below = omega (arith, length-list_below (reason_rent why (fleet_by t p)) (fleets_in t))

    figure_at : (k : ℕ) (d : ℤ) → k < fleets_in t → IsFigure (get_or (list_below (reason_rent why (fleet_by t p)) (fleets_in t)) k d)
    figure_at k d below = subst IsFigure (sym (get_or-list_below (reason_rent why (fleet_by t p)) (fleets_in t) k d below)) (rent_figure why (fleet_by t p) k)
