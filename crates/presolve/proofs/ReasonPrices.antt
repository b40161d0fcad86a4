-- What the steps of a reason's prices say at each minute.
use Rattle.std.proofs.Common.{◌≡◌, ℕ, zero, suc, ◌+◌, ◌<◌, ◌≤◌, Bool, true, false, if◌then◌else◌, ◌==◌, ◌&&◌, nat_le, nat_lt, [], ◌∷◌, All, ℤ, pos, negsuc, refl, ap, ◌∙◌, arith}
use Rattle.std.proofs.lemmas.Bool.Decides.{nat_tests}
use Rattle.std.proofs.lemmas.List.Elements.{All-append, All-nil, All-from_recursion}
use Rattle.sums.specs.Places.{list_below}
use Rattle.fleet_model.specs.Schedule.{IsPair, fleet_by, fleets_in, last_of, leg_of, no_leg, period_of, stations_in}
use Rattle.fleet_model.specs.Times.{departure}
use Rattle.fleet_model.specs.declared.parts.Pair.{Pair}
use Rattle.fleet_model.specs.declared.tables.Tables.{Tables}
use Rattle.dual_bound.specs.OfTables.{IsChargeOf, IsStepOf}
use Rattle.dual_bound.specs.Prices.{price_after, step_has_come}
use Rattle.dual_bound.specs.declared.prices.Prices.{Prices}
use Rattle.dual_bound.specs.declared.prices.PriceStep.{PriceStep}
use Rattle.dual_bound.proofs.PriceLists.{price_after-append}
use Rattle.presolve.specs.Reasons.{IsReason, reason_price, reason_rent, reason_steps, steps_until, steps_until_minute}
use Rattle.presolve.specs.declared.rule.Rule.{Rule}
use Rattle.presolve.specs.declared.rule.Rule.TheVariants as rule
use Rattle.presolve.proofs.ReasonOrder.{reason_in_order}

-- one step at the first minute
abbrev step_of : ℕ → ℕ → ℤ → PriceStep
step_of f s z = record { fleet = f; station = s; minute = 0; value = z }

price_one : (fleet station : ℕ) (z : ℤ) (f s m : ℕ) → price_after (pos 0) (step_of fleet station z ∷ []) f s m ≡ (if (f == fleet) && (s == station) then z else pos 0)
unfolding price_after
price_one fleet station z f s m = grind (arith, nat_tests)

-- a step and perhaps another
price_two : (b : Bool) (v : ℤ) (x y : PriceStep) (f s m : ℕ)
    → price_after v (x ∷ (if b then y ∷ [] else [])) f s m ≡ (if b && step_has_come y f s m then y.value else (if step_has_come x f s m then x.value else v))
unfolding price_after
price_two true v x y f s m = refl
price_two false v x y f s m = refl

price_there : (t : Tables) (v : ℤ) (fleet minute station f s m : ℕ) → m < period_of t
    → price_after v (steps_until_minute t fleet minute station) f s m ≡ (if (f == fleet) && (s == station) then (if nat_le m minute then pos 1 else pos 0) else v)
price_there t v fleet minute station f s m within =
    price_two (nat_lt minute (last_of t)) v _ _ f s m ∙ grind (arith, nat_tests)

-- at the stations below a number the price is 1 until the minute
price_until : (t : Tables) (fleet minute n f s m : ℕ) → m < period_of t
    → price_after (pos 0) (steps_until t fleet minute n) f s m ≡ (if (f == fleet) && (nat_lt s n && nat_le m minute) then pos 1 else pos 0)
unfolding price_after steps_until
price_until t fleet minute zero f s m within = grind (arith, nat_tests)
price_until t fleet minute (suc n) f s m within =
    price_after-append (pos 0) (steps_until t fleet minute n) (steps_until_minute t fleet minute n) f s m
    ∙ ap (λ v. price_after v (steps_until_minute t fleet minute n) f s m) (price_until t fleet minute n f s m within)
    ∙ price_there t _ fleet minute n f s m within
    ∙ grind (arith, nat_tests)

-- the steps are of the tables
of_all : (t : Tables) (fleet minute n : ℕ) → fleet < fleets_in t → n ≤ stations_in t → All (IsStepOf t) (steps_until t fleet minute n)
unfolding steps_until
of_all t fleet minute zero known within = All-nil (IsStepOf t)
of_all t fleet minute (suc n) known within =
    All-append (IsStepOf t) (steps_until t fleet minute n) (steps_until_minute t fleet minute n) (of_all t fleet minute n known (omega arith)) (there (nat_lt minute (last_of t)))
  where
    of_step : (m : ℕ) (z : ℤ) → IsStepOf t (record { fleet = fleet; station = n; minute = m; value = z })
    of_step m z = record { fleet = known; station = omega arith }

    there : (b : Bool) → All (IsStepOf t) (step_of fleet n (pos 1) ∷ (if b then record { fleet = fleet; station = n; minute = minute + 1; value = pos 0 } ∷ [] else []))
    there true = All-from_recursion (IsStepOf t) (step_of fleet n (pos 1) ∷ record { fleet = fleet; station = n; minute = minute + 1; value = pos 0 } ∷ []) (of_step 0 (pos 1), (of_step (minute + 1) (pos 0), tt))
    there false = All-from_recursion (IsStepOf t) (step_of fleet n (pos 1) ∷ []) (of_step 0 (pos 1), tt)

steps_of_tables : (t : Tables) (why : Rule) (p : Pair) → IsPair t p → fleet_by t p < fleets_in t → All (IsStepOf t) (reason_steps t why p)
steps_of_tables t rule.NoArrival p pair flies =
    All-from_recursion (IsStepOf t) (step_of (fleet_by t p) (leg_of t p.leg).from (pos 1) ∷ []) (record { fleet = flies; station = (t.in_range.legs_fit.each p.leg no_leg pair.leg).from }, tt)
steps_of_tables t rule.NoDeparture p pair flies =
    All-from_recursion (IsStepOf t) (step_of (fleet_by t p) (leg_of t p.leg).to (negsuc 0) ∷ []) (record { fleet = flies; station = (t.in_range.legs_fit.each p.leg no_leg pair.leg).to }, tt)
steps_of_tables t rule.TooFewAircraft p pair flies = of_all t (fleet_by t p) (departure t p) (stations_in t) flies (omega arith)

-- what the steps say
steps_say : (t : Tables) (why : Rule) (p : Pair) (f s m : ℕ) → s < stations_in t → m < period_of t → price_after (pos 0) (reason_steps t why p) f s m ≡ reason_price t why p f s m
steps_say t rule.NoArrival p f s m there within = price_one (fleet_by t p) (leg_of t p.leg).from (pos 1) f s m
steps_say t rule.NoDeparture p f s m there within = price_one (fleet_by t p) (leg_of t p.leg).to (negsuc 0) f s m
steps_say t rule.TooFewAircraft p f s m there within =
    price_until t (fleet_by t p) (departure t p) (stations_in t) f s m within ∙ of_station (f == fleet_by t p) (nat_lt s (stations_in t)) (nat_le m (departure t p)) (grind (arith, nat_tests))
  where
    of_station : (a b c : Bool) → b ≡ true → (if a && (b && c) then pos 1 else pos 0) ≡ (if a && c then pos 1 else pos 0)
    of_station a true c e = refl
    of_station a false c e = cc

-- prices of these rents and steps are the reason
pub reason_is : (t : Tables) (why : Rule) (p : Pair) (prices : Prices) → IsPair t p → fleet_by t p < fleets_in t → prices.scale ≡ pos 1 → prices.rents ≡ list_below (reason_rent why (fleet_by t p)) (fleets_in t)
    → prices.steps ≡ reason_steps t why p → prices.charges ≡ [] → IsReason t why p prices
reason_is t why p prices pair flies one rents steps none = record {
  scale = one;
  rents = rents;
  each_price = λ f s m known there within. rw steps (steps_say t why p f s m there within);
  no_charges = none;
  of_tables = record { steps = rw steps (steps_of_tables t why p pair flies); charges = rw none (All-nil (IsChargeOf t)) };
  in_order = reason_in_order t why p prices pair flies one rents steps none;
}
