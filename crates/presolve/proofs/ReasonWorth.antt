-- What a part is worth by the prices of a reason.
use Rattle.std.proofs.Common.{◌≡◌, [], ℕ, ◌+◌, ◌<◌, true, false, ◌==◌, nat_lt, ℤ, pos, ◌+ℤ◌, ◌-ℤ◌, ◌*ℤ◌, ◌≤ℤ◌, ◌<ℤ◌, refl, sym, ◌∙◌, ap, arith}
use Rattle.std.proofs.lemmas.Bool.{ltb-true}
use Rattle.std.proofs.lemmas.Bool.Decides.{nat_tests}
use Rattle.std.proofs.lemmas.Int.{ints}
use lib.IntN.{zero-*ℤ}
use Rattle.sums.specs.Below.{sum_below_ℤ}
use Rattle.sums.proofs.Tests.{by_test}
use Rattle.sums.proofs.WholeSums.{sum_below_ℤ-same}
use Rattle.fleet_model.specs.Kept.{Domains}
use Rattle.fleet_model.specs.Schedule.{IsPair, choices_in, fleet_by, fleet_of, fleets_in, leg_of, leg_on, legs_in, no_leg}
use Rattle.fleet_model.specs.Times.{busy_minutes, departure, laps_of, ready_minute}
use Rattle.fleet_model.specs.declared.parts.Pair.{Pair}
use Rattle.fleet_model.specs.declared.tables.Tables.{Tables}
use Rattle.fleet_model.proofs.PeriodMinutes.{departs_in, in_period}
use Rattle.dual_bound.specs.Worth.{cost_units, leg_worth, pair_worth, rents_of, worth_of}
use Rattle.dual_bound.specs.declared.prices.Prices.{Prices}
use Rattle.dual_bound.proofs.Charges.{flown, not_flown}
use Rattle.dual_bound.proofs.NoCharges.{no_charges}
use Rattle.presolve.specs.Reasons.{IsReason, reason_price, reason_rent}
use Rattle.presolve.specs.declared.rule.Rule.{Rule}
use Rattle.presolve.specs.declared.rule.Rule.TheVariants as rule
use Rattle.presolve.proofs.LeastBounds.{NoneLess, least_low, least_of_kept}
use Rattle.presolve.proofs.ReasonsProper.{rent_is}

-- what a pair adds to the worth by a reason's prices
abbrev pub reason_flow : Tables → Rule → Pair → Pair → ℤ
reason_flow t why p q =
    (reason_price t why p (fleet_by t q) (leg_of t q.leg).from (departure t q) -ℤ reason_price t why p (fleet_by t q) (leg_of t q.leg).to (ready_minute t q))
    +ℤ (reason_rent why (fleet_by t p) (fleet_by t q) *ℤ pos (laps_of t q))

-- no cost is put in
no_cost : (s c d r e f : ℤ) → d ≡ e → r ≡ f → (((pos 0 *ℤ s) *ℤ c) +ℤ d) +ℤ r ≡ e +ℤ f
no_cost s c d r e f g h = let none : (pos 0 *ℤ s) *ℤ c ≡ pos 0 = ap (λ z. z *ℤ c) (zero-*ℤ s) ∙ zero-*ℤ c in omega (arith, ints, none, g, h)

-- a pair that a fleet flies adds what the prices say
flown_flow : (t : Tables) (why : Rule) (p q : Pair) (prices : Prices) → IsReason t why p prices → IsPair t q → fleet_by t q < fleets_in t → pair_worth t prices 0 q ≡ reason_flow t why p q
flown_flow t why p q prices reason pair flies =
    let fits = t.in_range.legs_fit.each q.leg no_leg pair.leg in
    no_cost prices.scale (cost_units t q) _ _ _ _
    (flown t q _ pair flies
    ∙ less (reason.each_price (fleet_by t q) (leg_of t q.leg).from (departure t q) flies fits.from (departs_in t q pair))
    (reason.each_price (fleet_by t q) (leg_of t q.leg).to (ready_minute t q) flies fits.to (in_period t (departure t q + busy_minutes t q))))
    (flown t q _ pair flies ∙ ap (λ z. z *ℤ pos (laps_of t q)) (rent_is t why p prices reason (fleet_by t q) flies))
  where
    less : {a b c d : ℤ} → a ≡ b → c ≡ d → a -ℤ c ≡ b -ℤ d
    less e f = rw (e, f) refl

-- one that none flies adds nothing: its number of a fleet is not that of the reason's pair
nothing_said : (t : Tables) (why : Rule) (p q : Pair) → (fleet_by t q == fleet_by t p) ≡ false → reason_flow t why p q ≡ pos 0
nothing_said t rule.NoArrival p q other = rw other (omega (arith, ints, zero-*ℤ (pos (laps_of t q))))
nothing_said t rule.NoDeparture p q other = rw other (omega (arith, ints, zero-*ℤ (pos (laps_of t q))))
nothing_said t rule.TooFewAircraft p q other = rw other (omega (arith, ints, zero-*ℤ (pos (laps_of t q))))

left_out_flow : (t : Tables) (why : Rule) (p q : Pair) (prices : Prices) → fleet_by t p < fleets_in t → IsPair t q → nat_lt (fleet_by t q) (fleets_in t) ≡ false → pair_worth t prices 0 q ≡ reason_flow t why p q
left_out_flow t why p q prices flies pair none =
    no_cost prices.scale (cost_units t q) _ _ _ _ (not_flown t q _ pair none) (not_flown t q _ pair none) ∙ sym (nothing_said t why p q (grind (arith, nat_tests)))

pub flow_is : (t : Tables) (why : Rule) (p q : Pair) (prices : Prices) → fleet_by t p < fleets_in t → IsReason t why p prices → IsPair t q → pair_worth t prices 0 q ≡ reason_flow t why p q
flow_is t why p q prices flies reason pair = by_test (nat_lt (fleet_by t q) (fleets_in t))
    (λ e. flown_flow t why p q prices reason pair (ltb-true _ _ e))
    (λ e. left_out_flow t why p q prices flies pair e)

-- each kept pair of a leg adds no less
pub record NoneAddsLess (t : Tables) (keeps : Domains) (why : Rule) (p : Pair) (l : ℕ) (low : ℤ) : Type 0 where
  pub each : (c : ℕ) → c < choices_in t l → keeps (leg_on l c) ≡ true → low ≤ℤ reason_flow t why p (leg_on l c)

none_less : (t : Tables) (keeps : Domains) (why : Rule) (p : Pair) (prices : Prices) (l : ℕ) (low : ℤ) → fleet_by t p < fleets_in t → IsReason t why p prices → l < legs_in t → NoneAddsLess t keeps why p l low
    → NoneLess (λ c. keeps (leg_on l c)) (λ c. pair_worth t prices 0 (leg_on l c)) low (choices_in t l)
none_less t keeps why p prices l low flies reason within none = record {
  each = λ c known kept. rw (flow_is t why p (leg_on l c) prices flies reason (record { leg = within; choice = known })) (none.each c known kept);
}

-- and neither does the leg, by a bound that is 0 at most, or by any where it keeps a pair
pub leg_low : (t : Tables) (keeps : Domains) (why : Rule) (p : Pair) (prices : Prices) (l : ℕ) → fleet_by t p < fleets_in t → IsReason t why p prices → l < legs_in t → NoneAddsLess t keeps why p l (pos 0)
    → pos 0 ≤ℤ leg_worth t keeps prices 0 l
unfolding leg_worth
leg_low t keeps why p prices l flies reason within none =
    least_low (λ c. keeps (leg_on l c)) (λ c. pair_worth t prices 0 (leg_on l c)) (pos 0) (choices_in t l) (pos 0) (none_less t keeps why p prices l (pos 0) flies reason within none) (omega (arith, ints))

pub leg_of_kept : (t : Tables) (keeps : Domains) (why : Rule) (p : Pair) (prices : Prices) (l c : ℕ) (low : ℤ) → fleet_by t p < fleets_in t → IsReason t why p prices → l < legs_in t → NoneAddsLess t keeps why p l low
    → c < choices_in t l → keeps (leg_on l c) ≡ true → low ≤ℤ leg_worth t keeps prices 0 l
unfolding leg_worth
leg_of_kept t keeps why p prices l c low flies reason within none known kept =
    least_of_kept (λ c. keeps (leg_on l c)) (λ c. pair_worth t prices 0 (leg_on l c)) low (choices_in t l) c (pos 0) (none_less t keeps why p prices l low flies reason within none) known kept

-- the rents of all aircraft by a reason
abbrev pub reason_rents : Tables → Rule → Pair → ℕ → ℤ
reason_rents t why p f = reason_rent why (fleet_by t p) f *ℤ pos (fleet_of t f).aircraft

pub rents_are : (t : Tables) (why : Rule) (p : Pair) (prices : Prices) → IsReason t why p prices → sum_below_ℤ (rents_of t prices) (fleets_in t) ≡ sum_below_ℤ (reason_rents t why p) (fleets_in t)
rents_are t why p prices reason =
    sum_below_ℤ-same (rents_of t prices) (reason_rents t why p) (fleets_in t) (λ f known. ap (λ z. z *ℤ pos (fleet_of t f).aircraft) (rent_is t why p prices reason f known))

-- a part whose legs are worth more than the rents is worth more than 0
pub above_zero : (t : Tables) (keeps : Domains) (prices : Prices) → prices.charges ≡ [] → sum_below_ℤ (rents_of t prices) (fleets_in t) <ℤ sum_below_ℤ (leg_worth t keeps prices 0) (legs_in t) → pos 0 <ℤ worth_of t keeps prices 0
unfolding worth_of
above_zero t keeps prices none more = omega (arith, ints, more, no_charges t prices (sum_below_ℤ (leg_worth t keeps prices 0) (legs_in t) -ℤ sum_below_ℤ (rents_of t prices) (fleets_in t)) none)
