-- Where no kept pair of a fleet lands where a pair of it departs, or departs where it lands, the pair can't be flown.
use Rattle.std.proofs.Common.{◌≡◌, ℕ, ◌<◌, Bool, true, false, if◌then◌else◌, ◌==◌, ◌&&◌, pos, negsuc, ◌+ℤ◌, ◌-ℤ◌, ◌*ℤ◌, ◌≤ℤ◌, ◌<ℤ◌, refl, ◌∙◌, ap, arith}
use Rattle.std.proofs.lemmas.Bool.{eqb-true}
use Rattle.std.proofs.lemmas.Bool.Decides.{nat_tests}
use Rattle.std.proofs.lemmas.Int.{ints}
use lib.IntN.{zero-*ℤ}
use Rattle.sums.proofs.Counts.{count_below-some}
use Rattle.sums.proofs.Orders.{sum_below_ℤ-le}
use Rattle.sums.proofs.WholeSums.{sum_below_ℤ-same}
use Rattle.sums.proofs.WholeSwaps.{sum_below_ℤ-one, sum_below_ℤ-zero, where_true}
use Rattle.sums.specs.Below.{sum_below}
use Rattle.sums.proofs.Naturals.{equal_number, same_number}
use Rattle.sums.proofs.SumBounds.{term_le}
use Rattle.sums.proofs.Tests.{both_true, never_passes}
use Rattle.fleet_model.specs.Kept.{Domains}
use Rattle.fleet_model.specs.Schedule.{IsPair, choices_in, fleet_by, fleet_of, fleets_in, leg_of, leg_on, legs_in}
use Rattle.fleet_model.specs.Times.{laps_of}
use Rattle.fleet_model.specs.declared.parts.Pair.{Pair}
use Rattle.fleet_model.specs.declared.tables.Tables.{Tables}
use Rattle.dual_bound.specs.Bound.{part}
use Rattle.dual_bound.specs.Worth.{leg_worth, worth_of}
use Rattle.dual_bound.specs.declared.prices.Prices.{Prices}
use Rattle.presolve.specs.Reasons.{IsReason, reason_rent}
use Rattle.presolve.specs.Rules.{departures, flies, kept_flown_on, landings}
use Rattle.presolve.specs.declared.rule.Rule.{Rule}
use Rattle.presolve.specs.declared.rule.Rule.TheVariants as rule
use Rattle.presolve.proofs.KeptParts.{is_flown, is_own_choice, was_kept}
use Rattle.presolve.proofs.Landed.{counted}
use Rattle.presolve.proofs.ReasonWorth.{NoneAddsLess, above_zero, leg_low, leg_of_kept, reason_rents, rents_are}

-- no kept pair of the fleet has its place there
not_there : (t : Tables) (keeps : Domains) (place : ℕ → ℕ) (f s l c : ℕ) → sum_below (counted t keeps place f s) (legs_in t) ≡ 0 → l < legs_in t → c < choices_in t l
    → keeps (leg_on l c) ≡ true → fleet_by t (leg_on l c) ≡ f → (place l == s) ≡ false
unfolding kept_flown_on
not_there t keeps place f s l c none within known kept by = never_passes (place l == s)
    (λ e. let some = count_below-some (flies t keeps f l) (choices_in t l) c known (both_true (keeps (leg_on l c)) (fleet_by t (leg_on l c) == f) kept (equal_number (fleet_by t (leg_on l c)) f by)) in
    let term = term_le (counted t keeps place f s) l (legs_in t) within in
    omega (arith, some, term, none, counts (place l == s) (kept_flown_on t keeps f l) e))
  where
    counts : (b : Bool) (n : ℕ) → b ≡ true → (if b then n else 0) ≡ n
    counts true n e = refl
    counts false n e = cc

lands_not : (t : Tables) (keeps : Domains) (f s l c : ℕ) → landings t keeps f s ≡ 0 → l < legs_in t → c < choices_in t l → keeps (leg_on l c) ≡ true → fleet_by t (leg_on l c) ≡ f → ((leg_of t l).to == s) ≡ false
unfolding landings
lands_not t keeps f s l c none within known kept by = not_there t keeps (λ l. (leg_of t l).to) f s l c none within known kept by

departs_not : (t : Tables) (keeps : Domains) (f s l c : ℕ) → departures t keeps f s ≡ 0 → l < legs_in t → c < choices_in t l → keeps (leg_on l c) ≡ true → fleet_by t (leg_on l c) ≡ f → ((leg_of t l).from == s) ≡ false
unfolding departures
departs_not t keeps f s l c none within known kept by = not_there t keeps (λ l. (leg_of t l).from) f s l c none within known kept by

-- what a pair adds: of the fleet same_number something where it departs and nothing where it lands, or the other way round
of_arrival : (own here there : Bool) (laps : ℕ) → (own ≡ true → there ≡ false)
    → pos 0 ≤ℤ (((if own && here then pos 1 else pos 0) -ℤ (if own && there then pos 1 else pos 0)) +ℤ (pos 0 *ℤ pos laps))
of_arrival true here true laps away = cc (away refl)
of_arrival true true false laps away = omega (arith, ints)
of_arrival true false false laps away = omega (arith, ints)
of_arrival false here there laps away = omega (arith, ints)

of_departure : (own here there : Bool) (laps : ℕ) → (own ≡ true → here ≡ false)
    → pos 0 ≤ℤ (((if own && here then negsuc 0 else pos 0) -ℤ (if own && there then negsuc 0 else pos 0)) +ℤ (pos 0 *ℤ pos laps))
of_departure true true there laps away = cc (away refl)
of_departure true false true laps away = omega (arith, ints)
of_departure true false false laps away = omega (arith, ints)
of_departure false here there laps away = omega (arith, ints)

own_arrival : (own here there : Bool) (laps : ℕ) → own ≡ true → here ≡ true → there ≡ false
    → pos 1 ≤ℤ (((if own && here then pos 1 else pos 0) -ℤ (if own && there then pos 1 else pos 0)) +ℤ (pos 0 *ℤ pos laps))
own_arrival true true false laps e f g = omega (arith, ints)
own_arrival false here there laps e f g = cc
own_arrival true false there laps e f g = cc
own_arrival true true true laps e f g = cc

own_departure : (own here there : Bool) (laps : ℕ) → own ≡ true → here ≡ false → there ≡ true
    → pos 1 ≤ℤ (((if own && here then negsuc 0 else pos 0) -ℤ (if own && there then negsuc 0 else pos 0)) +ℤ (pos 0 *ℤ pos laps))
own_departure true false true laps e f g = omega (arith, ints)
own_departure false here there laps e f g = cc
own_departure true true there laps e f g = cc
own_departure true false false laps e f g = cc

module _ (t : Tables) (keeps : Domains) (p : Pair) (pair : IsPair t p) (flies : fleet_by t p < fleets_in t) where
  -- by the first rule
  abbrev flown : Domains
  flown = part keeps p.leg p.choice true

  arrival_adds : landings t keeps (fleet_by t p) (leg_of t p.leg).from ≡ 0 → (l : ℕ) → l < legs_in t → NoneAddsLess t flown rule.NoArrival p l (pos 0)
  arrival_adds none l within = record {
    each = λ c known kept. of_arrival (fleet_by t (leg_on l c) == fleet_by t p) ((leg_of t l).from == (leg_of t p.leg).from) ((leg_of t l).to == (leg_of t p.leg).from) (laps_of t (leg_on l c))
        (λ own. lands_not t keeps (fleet_by t p) (leg_of t p.leg).from l c none within known (was_kept keeps p.leg p.choice true (leg_on l c) kept) (eqb-true _ _ own));
  }

  own_arrival_adds : keeps p ≡ true → landings t keeps (fleet_by t p) (leg_of t p.leg).from ≡ 0 → NoneAddsLess t flown rule.NoArrival p p.leg (pos 1)
  own_arrival_adds is_kept none = record {
    each = λ c known kept. own_arrival (fleet_by t (leg_on p.leg c) == fleet_by t p) ((leg_of t p.leg).from == (leg_of t p.leg).from) ((leg_of t p.leg).to == (leg_of t p.leg).from) (laps_of t (leg_on p.leg c))
        (rw (is_own_choice keeps p.leg p.choice c kept) (same_number (fleet_by t p))) (same_number (leg_of t p.leg).from)
        (lands_not t keeps (fleet_by t p) (leg_of t p.leg).from p.leg p.choice none pair.leg pair.choice is_kept refl);
  }

  -- by the second
  departure_adds : departures t keeps (fleet_by t p) (leg_of t p.leg).to ≡ 0 → (l : ℕ) → l < legs_in t → NoneAddsLess t flown rule.NoDeparture p l (pos 0)
  departure_adds none l within = record {
    each = λ c known kept. of_departure (fleet_by t (leg_on l c) == fleet_by t p) ((leg_of t l).from == (leg_of t p.leg).to) ((leg_of t l).to == (leg_of t p.leg).to) (laps_of t (leg_on l c))
        (λ own. departs_not t keeps (fleet_by t p) (leg_of t p.leg).to l c none within known (was_kept keeps p.leg p.choice true (leg_on l c) kept) (eqb-true _ _ own));
  }

  own_departure_adds : keeps p ≡ true → departures t keeps (fleet_by t p) (leg_of t p.leg).to ≡ 0 → NoneAddsLess t flown rule.NoDeparture p p.leg (pos 1)
  own_departure_adds is_kept none = record {
    each = λ c known kept. own_departure (fleet_by t (leg_on p.leg c) == fleet_by t p) ((leg_of t p.leg).from == (leg_of t p.leg).to) ((leg_of t p.leg).to == (leg_of t p.leg).to) (laps_of t (leg_on p.leg c))
        (rw (is_own_choice keeps p.leg p.choice c kept) (same_number (fleet_by t p)))
        (departs_not t keeps (fleet_by t p) (leg_of t p.leg).to p.leg p.choice none pair.leg pair.choice is_kept refl) (same_number (leg_of t p.leg).to);
  }

  -- where each leg adds 0 or more, and the pair's own adds 1 or more, and no rent is taken off
  refuted : (why : Rule) (prices : Prices) → ((f : ℕ) → reason_rent why (fleet_by t p) f ≡ pos 0) → IsReason t why p prices → keeps p ≡ true
      → ((l : ℕ) → l < legs_in t → NoneAddsLess t flown why p l (pos 0)) → NoneAddsLess t flown why p p.leg (pos 1) → pos 0 <ℤ worth_of t flown prices 0
  refuted why prices free reason is_kept others own =
      let own_worth = leg_of_kept t flown why p prices p.leg p.choice (pos 1) flies reason pair.leg own pair.choice (is_flown keeps p.leg p.choice is_kept) in
      let each = sum_below_ℤ-le (λ l. where_true (p.leg == l) (pos 1)) (leg_worth t flown prices 0) (legs_in t)
      (λ l within. at_leg l (p.leg == l) (leg_low t flown why p prices l flies reason within (others l within)) (λ e. let same : l ≡ p.leg = grind (arith, nat_tests) in rw same own_worth)) in
      let one = sum_below_ℤ-one p.leg (λ l. pos 1) (legs_in t) pair.leg in
      let nothing = sum_below_ℤ-same (reason_rents t why p) (λ f. pos 0) (fleets_in t) (λ f known. ap (λ z. z *ℤ pos (fleet_of t f).aircraft) (free f) ∙ zero-*ℤ (pos (fleet_of t f).aircraft)) in
      above_zero t flown prices reason.no_charges (omega (arith, ints, each, one, nothing, rents_are t why p prices reason, sum_below_ℤ-zero (fleets_in t)))
    where
      at_leg : (l : ℕ) (b : Bool) → pos 0 ≤ℤ leg_worth t flown prices 0 l → (b ≡ true → pos 1 ≤ℤ leg_worth t flown prices 0 l) → where_true b (pos 1) ≤ℤ leg_worth t flown prices 0 l
      at_leg l true low high = high refl
      at_leg l false low high = low

pub no_arrival_refutes : (t : Tables) (keeps : Domains) (p : Pair) (prices : Prices) → IsPair t p → fleet_by t p < fleets_in t → keeps p ≡ true → landings t keeps (fleet_by t p) (leg_of t p.leg).from ≡ 0
    → IsReason t rule.NoArrival p prices → pos 0 <ℤ worth_of t (part keeps p.leg p.choice true) prices 0
no_arrival_refutes t keeps p prices pair flies kept none reason =
    refuted t keeps p pair flies rule.NoArrival prices (λ f. refl) reason kept (arrival_adds t keeps p pair flies none) (own_arrival_adds t keeps p pair flies kept none)

pub no_departure_refutes : (t : Tables) (keeps : Domains) (p : Pair) (prices : Prices) → IsPair t p → fleet_by t p < fleets_in t → keeps p ≡ true → departures t keeps (fleet_by t p) (leg_of t p.leg).to ≡ 0
    → IsReason t rule.NoDeparture p prices → pos 0 <ℤ worth_of t (part keeps p.leg p.choice true) prices 0
no_departure_refutes t keeps p prices pair flies kept none reason =
    refuted t keeps p pair flies rule.NoDeparture prices (λ f. refl) reason kept (departure_adds t keeps p pair flies none) (own_departure_adds t keeps p pair flies kept none)
