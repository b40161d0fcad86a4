-- Between two steps prices stay, so what holds where steps stand holds at every minute.
use Rattle.std.proofs.Common.{◌≡◌, ℕ, zero, suc, ◌+◌, ◌-◌, ◌<◌, Bool, true, false, ◌&&◌, ◌==◌, nat_le, if◌then◌else◌, List, [], ◌∷◌, All, MatchBool, length, slice_index_or, ◌⊎◌, inl, inr, ℤ, pos, ◌+ℤ◌, ◌≤ℤ◌, ◌<ℤ◌, refl, sym, ◌∙◌, ap, subst, add-one, arith}
use mathlib.Core.Bool.{false≢true}
use Rattle.std.proofs.lemmas.List.{get_or_default}
use Rattle.std.proofs.lemmas.Int.{ints, to_z-of_z}
use mir.Syntax.{w128}
use mir.Val.{SFits}
use Rattle.std.proofs.lemmas.Bool.Decides.{nat_tests}
use Rattle.std.proofs.lemmas.List.Elements.{All-head, All-tail}
use Rattle.fleet_model.specs.Schedule.{fleets_in, last_of, period_of, stations_in}
use Rattle.fleet_model.specs.declared.tables.Tables.{Tables}
use Rattle.fleet_model.proofs.PeriodMinutes.{last_in}
use Rattle.dual_bound.specs.OfTables.{ArePricesOf}
use Rattle.dual_bound.specs.Prices.{AreCharges, AreRents, AreWithin, IsPrice, NeverRise, RiseByRent, RisesOverEnd, price_after, price_of, rent_of, step_has_come, with_charge}
use Rattle.dual_bound.specs.Sizes.{IsUpTo}
use Rattle.dual_bound.specs.Rising.{no_step, step_at}
use Rattle.dual_bound.specs.declared.prices.Prices.{Prices}
use Rattle.dual_bound.specs.declared.prices.PriceStep.{PriceStep}
use Rattle.dual_bound.proofs.Charges.{no_rise}
use Rattle.dual_bound.proofs.Numbers.{held, is_held}
use Rattle.cert_check.specs.PriceRules.{AreWithinAtSteps, FallAtSteps, FallsAt, IsWithinAt, RiseAtSteps, RiseBefore, RisesByRentAt, goes_on_at}

-- a step of a fleet at a station, with what is known of it
record IsAt (P : PriceStep → Type 0) (f s : ℕ) (step : PriceStep) : Type 0 where
  pub holds : P step
  pub fleet : step.fleet ≡ f
  pub station : step.station ≡ s

record IsAtMinute (P : PriceStep → Type 0) (f s m : ℕ) (step : PriceStep) : Type 0 where
  pub at : IsAt P f s step
  pub minute : step.minute ≡ m

-- what a test of a fleet, a station and a minute says
same_place : (x f y s : ℕ) (b : Bool) → ((x == f) && (y == s) && b) ≡ true → (x ≡ f) × (y ≡ s) × (b ≡ true)
same_place x f y s b e = grind (arith, nat_tests)

-- a step has come that had not a minute before: it stands there
comes_now : (x f y s n m : ℕ) → ((x == f) && (y == s) && nat_le n (m + 1)) ≡ true → ((x == f) && (y == s) && nat_le n m) ≡ false → (x ≡ f) × (y ≡ s) × (n ≡ m + 1)
comes_now x f y s n m e late = grind (arith, nat_tests)

came_before : (x f y s n m : ℕ) → ((x == f) && (y == s) && nat_le n (m + 1)) ≡ false → ((x == f) && (y == s) && nat_le n m) ≡ true → ⊥
came_before x f y s n m e early = grind (arith, nat_tests)

comes_first : (x f y s n : ℕ) → ((x == f) && (y == s) && nat_le n 0) ≡ true → (x ≡ f) × (y ≡ s) × (n ≡ 0)
comes_first x f y s n e = grind (arith, nat_tests)

module _ (P : PriceStep → Type 0) (f s : ℕ) where
  -- a step stands at the minute, or the price is that of the minute before
  stands_or_stays : (m : ℕ) (steps : List PriceStep) (v : ℤ) → All P steps
      → ((step : PriceStep) × IsAtMinute P f s (m + 1) step) ⊎ (price_after v steps f s (m + 1) ≡ price_after v steps f s m)
  unfolding price_after
  stands_or_stays m [] v all = inr refl
  stands_or_stays m (step ∷ steps) v all = by_test (λ w. stands_or_stays m steps w (All-tail P step steps all)) (step_has_come step f s (m + 1)) (step_has_come step f s m) refl refl
    where
      by_test : ((w : ℤ) → ((other : PriceStep) × IsAtMinute P f s (m + 1) other) ⊎ (price_after w steps f s (m + 1) ≡ price_after w steps f s m))
          → (b c : Bool) → step_has_come step f s (m + 1) ≡ b → step_has_come step f s m ≡ c
          → ((step : PriceStep) × IsAtMinute P f s (m + 1) step) ⊎ (price_after (if b then step.value else v) steps f s (m + 1) ≡ price_after (if c then step.value else v) steps f s m)
      by_test later true true e g = later step.value
      by_test later false false e g = later v
      by_test later true false e g =
          let here = comes_now step.fleet f step.station s step.minute m e g in
          inl (step, record { at = record { holds = All-head P step steps all; fleet = here.0; station = here.1 }; minute = here.2 })
      by_test later false true e g = absurd (came_before step.fleet f step.station s step.minute m e g)

  -- a step stands at the first minute, or the price there is that before all steps
  stands_or_begins : (steps : List PriceStep) (v : ℤ) → All P steps
      → ((step : PriceStep) × IsAtMinute P f s 0 step) ⊎ (price_after v steps f s 0 ≡ v)
  unfolding price_after
  stands_or_begins [] v all = inr refl
  stands_or_begins (step ∷ steps) v all = by_test (stands_or_begins steps v (All-tail P step steps all)) (step_has_come step f s 0) refl
    where
      by_test : ((other : PriceStep) × IsAtMinute P f s 0 other) ⊎ (price_after v steps f s 0 ≡ v) → (b : Bool) → step_has_come step f s 0 ≡ b
          → ((step : PriceStep) × IsAtMinute P f s 0 step) ⊎ (price_after (if b then step.value else v) steps f s 0 ≡ v)
      by_test later false e = later
      by_test later true e =
          let here = comes_first step.fleet f step.station s step.minute e in
          inl (step, record { at = record { holds = All-head P step steps all; fleet = here.0; station = here.1 }; minute = here.2 })

  -- there is a step of the fleet at the station, or its price stays as it was before all steps
  some_or_none : (m : ℕ) (steps : List PriceStep) (v : ℤ) → All P steps
      → ((step : PriceStep) × IsAt P f s step) ⊎ (price_after v steps f s m ≡ v)
  unfolding price_after
  some_or_none m [] v all = inr refl
  some_or_none m (step ∷ steps) v all = by_test (some_or_none m steps v (All-tail P step steps all)) (step_has_come step f s m) refl
    where
      by_test : ((other : PriceStep) × IsAt P f s other) ⊎ (price_after v steps f s m ≡ v) → (b : Bool) → step_has_come step f s m ≡ b
          → ((step : PriceStep) × IsAt P f s step) ⊎ (price_after (if b then step.value else v) steps f s m ≡ v)
      by_test later false e = later
      by_test later true e =
          let here = same_place step.fleet f step.station s _ e in
          inl (step, record { holds = All-head P step steps all; fleet = here.0; station = here.1 })

-- limits at steps are limits at every minute
here_within : (t : Tables) (prices : Prices) (f s m : ℕ) (step : PriceStep) → IsAtMinute (IsWithinAt t prices) f s m step → m < period_of t → IsPrice (price_of prices f s m)
here_within t prices f s m step there within =
    let small = there.at.holds.is (rw there.minute within) in
    rw (there.at.fleet, there.at.station, there.minute) at small

within_everywhere : (t : Tables) (prices : Prices) → All (IsWithinAt t prices) prices.steps → (f s m : ℕ) → m < period_of t → IsPrice (price_of prices f s m)
within_everywhere t prices all f s zero within = elim (stands_or_begins (IsWithinAt t prices) f s prices.steps (pos 0) all) [
  | inl there ↦ here_within t prices f s 0 there.0 there.1 within
  | inr none ↦ rw none (record { no_less = omega (arith, ints); no_more = omega (arith, ints) })
]
within_everywhere t prices all f s (suc m) within = elim (stands_or_stays (IsWithinAt t prices) f s m prices.steps (pos 0) all) [
  | inl there ↦ here_within t prices f s (suc m) there.0 (rw (← add-one m) there.1) within
  | inr same ↦ rw (← add-one m, same) (within_everywhere t prices all f s m (omega arith))
]

-- where no price rises at a step, but by a charge, none rises at all
falls_everywhere : (t : Tables) (prices : Prices) → AreCharges t prices → All (FallsAt t prices) prices.steps → (f s m : ℕ) → s < stations_in t → m + 1 < period_of t
    → price_of prices f s (m + 1) ≤ℤ with_charge prices s m (price_of prices f s m)
falls_everywhere t prices charges all f s m station within = elim (stands_or_stays (FallsAt t prices) f s m prices.steps (pos 0) all) [
  | inl there ↦ rw (there.1.at.fleet, there.1.at.station) at (there.1.at.holds.is m there.1.minute within)
  | inr same ↦ no_rise t prices charges s m station (omega (arith, within)) (price_of prices f s m) (price_of prices f s (m + 1)) (omega (arith, ints, same))
]

-- what holds of the step at each place holds of all steps
each_step : (P : PriceStep → Type 0) (steps : List PriceStep) → ((k : ℕ) → k < length steps → P (slice_index_or steps k no_step)) → All P steps
each_step P steps all k d below = subst P (get_or_default steps k no_step d below) (all k below)

-- the answers of the tests, from those at steps
pub within_by_steps : (t : Tables) (prices : Prices) (b : Bool) → ArePricesOf t prices → AreCharges t prices → AreRents t prices
    → MatchBool b (AreWithinAtSteps t prices) (¬ (AreWithinAtSteps t prices)) → MatchBool b (AreWithin t prices) (¬ (AreWithin t prices))
within_by_steps t prices true known charges rents all =
    record { rents = rents; each = λ f s m fleet station within. within_everywhere t prices (each_step (IsWithinAt t prices) prices.steps all) f s m within; charges = charges }
within_by_steps t prices false known charges rents none =
    λ within. none (λ k below. record { is = λ small. within.each _ _ _ (known.steps k no_step below).fleet (known.steps k no_step below).station small })

pub falls_by_steps : (t : Tables) (prices : Prices) (b : Bool) → ArePricesOf t prices → AreWithin t prices
    → MatchBool b (FallAtSteps t prices) (¬ (FallAtSteps t prices)) → MatchBool b (NeverRise t prices) (¬ (NeverRise t prices))
falls_by_steps t prices true known limits all = record { each = λ f s m fleet station within. falls_everywhere t prices limits.charges (each_step (FallsAt t prices) prices.steps all) f s m station within }
falls_by_steps t prices false known limits none =
    λ falls. none (λ k below. record { is = λ m minute within. falls.each _ _ m (known.steps k no_step below).fleet (known.steps k no_step below).station within })

-- over the end of the period
rises_everywhere : (t : Tables) (prices : Prices) → AreWithin t prices → All (RisesByRentAt t prices) prices.steps → (f s : ℕ) → f < fleets_in t → s < stations_in t → RisesOverEnd t prices f s
rises_everywhere t prices limits all f s fleet station = elim (some_or_none (RisesByRentAt t prices) f s 0 prices.steps (pos 0) all) [
  | inl there ↦ rw (there.1.fleet, there.1.station) at there.1.holds.is
  | inr first ↦ elim (some_or_none (RisesByRentAt t prices) f s (last_of t) prices.steps (pos 0) all) [
    | inl there ↦ rw (there.1.fleet, there.1.station) at there.1.holds.is
    | inr last ↦ no_rise t prices limits.charges s (last_of t) station (last_in t) (price_of prices f s (last_of t) +ℤ rent_of prices f) (price_of prices f s 0) (omega (arith, ints, first, last, (limits.rents f fleet).some))
  ]
]

pub rises_by_steps : (t : Tables) (prices : Prices) (b : Bool) → ArePricesOf t prices → AreWithin t prices
    → MatchBool b (RiseAtSteps t prices) (¬ (RiseAtSteps t prices)) → MatchBool b (RiseByRent t prices) (¬ (RiseByRent t prices))
rises_by_steps t prices true known limits all = record { each = λ f s fleet station. rises_everywhere t prices limits (each_step (RisesByRentAt t prices) prices.steps all) f s fleet station }
rises_by_steps t prices false known limits none =
    λ rise. none (λ k below. record { is = rise.each _ _ (known.steps k no_step below).fleet (known.steps k no_step below).station })

-- a step of the same fleet at the same station as one before it
moved : (t : Tables) (prices : Prices) (a b : PriceStep) → ((a.fleet == b.fleet) && (a.station == b.station)) ≡ true → RisesByRentAt t prices a → RisesByRentAt t prices b
moved t prices a b same rise = at_place (grind (arith, nat_tests)) (grind (arith, nat_tests))
  where
    at_place : a.fleet ≡ b.fleet → a.station ≡ b.station → RisesByRentAt t prices b
    at_place p q = record { is = rw (p, q) at rise.is }

pub risen_before : (t : Tables) (prices : Prices) (place : ℕ) → goes_on_at prices place ≡ true → RiseBefore t prices place → RisesByRentAt t prices (step_at prices place)
risen_before t prices zero follows before = absurd (false≢true follows)
risen_before t prices (suc place) follows before =
    let some : (suc place == 0) ≡ false = grind (arith, nat_tests) in
    let earlier : suc place - 1 ≡ place = omega arith in
    moved t prices (step_at prices place) (step_at prices (suc place)) (rw (some, earlier) at follows) (before place (omega arith))

-- over the end of the period, of one step
pub risen_at : (t : Tables) (prices : Prices) (step : PriceStep) (b : Bool) (end : ℕ) (first last rent after : ℤ) → end ≡ last_of t → first ≡ price_of prices step.fleet step.station 0
    → last ≡ price_of prices step.fleet step.station end → rent ≡ rent_of prices step.fleet → after ≡ with_charge prices step.station end (held (held last +ℤ held rent))
    → IsUpTo 1 first → IsUpTo 1 last → IsUpTo 1 rent → SFits w128 after
    → MatchBool b (held first ≤ℤ held after) (held after <ℤ held first) → MatchBool b (RisesByRentAt t prices step) (¬ (RisesByRentAt t prices step))
risen_at t prices step b end first last rent after e p q r a small_first small_last small_rent fits test =
    let first_held = is_held 1 first small_first (omega arith) in
    let last_held = is_held 1 last small_last (omega arith) in
    let rent_held = is_held 1 rent small_rent (omega arith) in
    let sum_held = is_held 2 (last +ℤ rent) (record { no_less = omega (arith, ints); no_more = omega (arith, ints) }) (omega arith) in
    let after_held : held after ≡ after = to_z-of_z w128 after fits in
    let whole = a ∙ ap (λ z. with_charge prices step.station end z) (rw (last_held, rent_held, sum_held) refl) ∙ by_end e in
    by_answer b whole (rw (first_held, after_held) at test)
  where
    by_end : end ≡ last_of t → with_charge prices step.station end (last +ℤ rent) ≡ with_charge prices step.station (last_of t) (price_of prices step.fleet step.station (last_of t) +ℤ rent_of prices step.fleet)
    by_end e = rw (q, r, e) refl

    by_answer : (b : Bool) → after ≡ with_charge prices step.station (last_of t) (price_of prices step.fleet step.station (last_of t) +ℤ rent_of prices step.fleet)
        → MatchBool b (first ≤ℤ after) (after <ℤ first) → MatchBool b (RisesByRentAt t prices step) (¬ (RisesByRentAt t prices step))
    by_answer true whole test = record { is = subst (λ z. price_of prices step.fleet step.station 0 ≤ℤ z) whole (subst (λ z. z ≤ℤ after) p test) }
    by_answer false whole test = λ rise. absurd (omega (arith, ints, test, subst (λ z. z ≤ℤ after) (sym p) (subst (λ z. price_of prices step.fleet step.station 0 ≤ℤ z) (sym whole) rise.is)))
