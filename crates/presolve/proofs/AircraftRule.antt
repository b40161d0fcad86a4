-- Where a pair's departure finds more aircraft of its fleet busy than it has, the pair can't be flown.
use Rattle.std.proofs.Common.{◌≡◌, ◌≢◌, ℕ, zero, suc, ◌+◌, ◌-◌, ◌*◌, ◌<◌, ◌≤◌, Bool, true, false, if◌then◌else◌, ◌==◌, ◌&&◌, nat_le, pos, ◌+ℤ◌, ◌-ℤ◌, ◌*ℤ◌, ◌≤ℤ◌, ◌<ℤ◌, refl, ◌∙◌, arith}
use Rattle.std.proofs.lemmas.Bool.Decides.{nat_tests}
use Rattle.std.proofs.lemmas.Int.{ints}
use lib.IntN.{zero-*ℤ}
use Rattle.sums.specs.Below.{sum_below_ℤ}
use Rattle.sums.proofs.Counts.{count_below-one}
use Rattle.sums.proofs.Integers.{one-*ℤ}
use Rattle.sums.proofs.Orders.{sum_below_ℤ-le}
use Rattle.sums.proofs.WholeSums.{sum_below_ℤ-same, sum_below_ℤ-pos}
use Rattle.sums.proofs.WholeSwaps.{sum_below_ℤ-one, where_true}
use Rattle.sums.proofs.Naturals.{same_number}
use Rattle.sums.proofs.Tests.{by_test}
use Rattle.fleet_model.specs.Kept.{Domains, kept_on}
use Rattle.fleet_model.specs.Schedule.{IsPair, choices_in, fleet_by, fleet_of, fleets_in, leg_on, legs_in, period_of}
use Rattle.fleet_model.specs.Times.{busy_minutes, departure, laps_of, ready_minute}
use Rattle.fleet_model.specs.declared.parts.Pair.{Pair}
use Rattle.fleet_model.specs.declared.tables.Tables.{Tables}
use Rattle.fleet_model.proofs.PeriodMinutes.{lap_split}
use Rattle.dual_bound.specs.Bound.{part}
use Rattle.dual_bound.specs.Worth.{leg_worth, worth_of}
use Rattle.dual_bound.specs.declared.prices.Prices.{Prices}
use Rattle.presolve.specs.Reasons.{IsReason}
use Rattle.presolve.specs.Rules.{busy_alone, busy_at, busy_on, come_by, surely_busy}
use Rattle.presolve.specs.declared.rule.Rule.TheVariants as rule
use Rattle.presolve.proofs.AloneLaws.{IsKeptOn, alone_is, not_alone, one_choice}
use Rattle.presolve.proofs.KeptParts.{is_flown, is_own_choice, on_others, was_kept}
use Rattle.presolve.proofs.ReasonWorth.{NoneAddsLess, above_zero, leg_low, leg_of_kept, reason_flow, reason_rents, rents_are}

-- what is ready by the end of a minute has left by then, or passed a period start
ready_later : (period departs laps ready end m : ℕ) → end ≡ period * laps + ready → departs ≤ end → come_by ready m ≤ laps + come_by departs m
ready_later period departs zero ready end m is order = let none : period * 0 ≡ 0 = omega arith in grind (arith, nat_tests)
ready_later period departs (suc laps) ready end m is order = grind (arith, nat_tests)

pub no_less_busy : (t : Tables) (p : Pair) (m : ℕ) → come_by (ready_minute t p) m ≤ laps_of t p + come_by (departure t p) m
no_less_busy t p m = ready_later (period_of t) (departure t p) (laps_of t p) (ready_minute t p) (departure t p + busy_minutes t p) m (lap_split t p) (omega arith)

-- what a pair adds: the aircraft that it keeps busy, where it is of the fleet, else nothing
of_own : (a b : Bool) (laps : ℕ) → (if b then 1 else 0) ≤ laps + (if a then 1 else 0)
    → ((if a then pos 1 else pos 0) -ℤ (if b then pos 1 else pos 0)) +ℤ (pos 1 *ℤ pos laps) ≡ pos (laps + (if a then 1 else 0) - (if b then 1 else 0))
of_own true true laps some = omega (arith, ints, one-*ℤ (pos laps))
of_own true false laps some = omega (arith, ints, one-*ℤ (pos laps))
of_own false true laps some = omega (arith, ints, one-*ℤ (pos laps))
of_own false false laps some = omega (arith, ints, one-*ℤ (pos laps))

by_fleet : (own a b : Bool) (laps : ℕ) → (if b then 1 else 0) ≤ laps + (if a then 1 else 0)
    → ((if own && a then pos 1 else pos 0) -ℤ (if own && b then pos 1 else pos 0)) +ℤ ((if own then pos 1 else pos 0) *ℤ pos laps)
    ≡ pos (if own then laps + (if a then 1 else 0) - (if b then 1 else 0) else 0)
by_fleet true a b laps some = of_own a b laps some
by_fleet false a b laps some = omega (arith, ints, zero-*ℤ (pos laps))

some_count : (n : ℕ) → pos 0 ≤ℤ pos n
some_count n = omega (arith, ints)

module _ (t : Tables) (keeps : Domains) (p : Pair) (pair : IsPair t p) (flies : fleet_by t p < fleets_in t) (is_kept : keeps p ≡ true) where
  abbrev flown : Domains
  flown = part keeps p.leg p.choice true

  abbrev minute : ℕ
  minute = departure t p

  flow : (q : Pair) → reason_flow t rule.TooFewAircraft p q ≡ pos (if fleet_by t q == fleet_by t p then busy_at t q minute else 0)
  flow q = by_fleet (fleet_by t q == fleet_by t p) (nat_le (departure t q) minute) (nat_le (ready_minute t q) minute) (laps_of t q) (no_less_busy t q minute)

  -- nothing adds less than 0
  some : (l : ℕ) → NoneAddsLess t flown rule.TooFewAircraft p l (pos 0)
  some l = record { each = λ c known kept. rw (flow (leg_on l c)) (some_count _) }

  -- the pair's own leg is worth what the pair keeps busy
  own_adds : NoneAddsLess t flown rule.TooFewAircraft p p.leg (pos (busy_at t p minute))
  own_adds = record {
    each = λ c known kept.
        let own : c ≡ p.choice = is_own_choice keeps p.leg p.choice c kept in
        rw (own, flow p) (rw (same_number (fleet_by t p)) (omega (arith, ints)));
  }

  own_bound : (prices : Prices) → IsReason t rule.TooFewAircraft p prices → pos (busy_at t p minute) ≤ℤ leg_worth t flown prices 0 p.leg
  own_bound prices reason = leg_of_kept t flown rule.TooFewAircraft p prices p.leg p.choice _ flies reason pair.leg own_adds pair.choice (is_flown keeps p.leg p.choice is_kept)

  -- and so is another that keeps one pair
  alone_adds : (l c : ℕ) → l ≢ p.leg → kept_on t keeps l ≡ 1 → IsKeptOn t keeps l c → NoneAddsLess t flown rule.TooFewAircraft p l (pos (busy_alone t keeps (fleet_by t p) minute l))
  alone_adds l c other one it = record {
    each = λ k known kept.
        let same : k ≡ c = count_below-one (λ j. keeps (leg_on l j)) (choices_in t l) k c one known it.known (was_kept keeps p.leg p.choice true (leg_on l k) kept) it.kept in
        rw (same, flow (leg_on l c), alone_is t keeps l c (fleet_by t p) minute one it.known it.kept) (omega (arith, ints));
  }

  alone_bound : (prices : Prices) → IsReason t rule.TooFewAircraft p prices → (l : ℕ) → l < legs_in t → l ≢ p.leg → kept_on t keeps l ≡ 1 → (c : ℕ) × IsKeptOn t keeps l c
      → pos (busy_alone t keeps (fleet_by t p) minute l) ≤ℤ leg_worth t flown prices 0 l
  alone_bound prices reason l within other one (c, it) =
      leg_of_kept t flown rule.TooFewAircraft p prices l c _ flies reason within (alone_adds l c other one it) it.known (on_others keeps p.leg p.choice true (leg_on l c) other ∙ it.kept)

  other_bound : (prices : Prices) → IsReason t rule.TooFewAircraft p prices → (l : ℕ) → l < legs_in t → l ≢ p.leg → pos (busy_alone t keeps (fleet_by t p) minute l) ≤ℤ leg_worth t flown prices 0 l
  other_bound prices reason l within other = by_test (kept_on t keeps l == 1)
      (λ e. let one : kept_on t keeps l ≡ 1 = grind (arith, nat_tests) in alone_bound prices reason l within other one (one_choice t keeps l one))
      (λ e. let more : kept_on t keeps l ≢ 1 = grind (arith, nat_tests) in
      rw (not_alone t keeps (fleet_by t p) minute l more) (leg_low t flown rule.TooFewAircraft p prices l flies reason within (some l)))

  -- so each leg is worth what it surely keeps busy, or more
  leg_bound : (prices : Prices) → IsReason t rule.TooFewAircraft p prices → (l : ℕ) → l < legs_in t → pos (busy_on t keeps p minute l) ≤ℤ leg_worth t flown prices 0 l
  leg_bound prices reason l within = bound (l == p.leg) _ _
      (λ e. let same : l ≡ p.leg = grind (arith, nat_tests) in rw same (own_bound prices reason))
      (λ e. let other : l ≢ p.leg = grind (arith, nat_tests) in other_bound prices reason l within other)
    where
      bound : (b : Bool) (m n : ℕ) → (b ≡ true → pos m ≤ℤ leg_worth t flown prices 0 l) → (b ≡ false → pos n ≤ℤ leg_worth t flown prices 0 l) → pos (if b then m else n) ≤ℤ leg_worth t flown prices 0 l
      bound true m n x y = x refl
      bound false m n x y = y refl

  -- and the rents are the fleet's aircraft
  all_rents : sum_below_ℤ (reason_rents t rule.TooFewAircraft p) (fleets_in t) ≡ pos (fleet_of t (fleet_by t p)).aircraft
  all_rents =
      sum_below_ℤ-same (reason_rents t rule.TooFewAircraft p) (λ f. where_true (fleet_by t p == f) (pos (fleet_of t f).aircraft)) (fleets_in t)
      (λ f known. at_fleet (f == fleet_by t p) (fleet_by t p == f) (fleet_of t f).aircraft (turned f))
      ∙ sum_below_ℤ-one (fleet_by t p) (λ f. pos (fleet_of t f).aircraft) (fleets_in t) flies
    where
      turned : (f : ℕ) → (f == fleet_by t p) ≡ (fleet_by t p == f)
      turned f = grind (arith, nat_tests)

      at_fleet : (a b : Bool) (n : ℕ) → a ≡ b → (if a then pos 1 else pos 0) *ℤ pos n ≡ where_true b (pos n)
      at_fleet true true n e = one-*ℤ (pos n)
      at_fleet false false n e = zero-*ℤ (pos n)
      at_fleet true false n e = cc
      at_fleet false true n e = cc

  refuted : (prices : Prices) → IsReason t rule.TooFewAircraft p prices → (fleet_of t (fleet_by t p)).aircraft < surely_busy t keeps p minute → pos 0 <ℤ worth_of t flown prices 0
  unfolding surely_busy
  refuted prices reason too_few =
      let each = sum_below_ℤ-le (λ l. pos (busy_on t keeps p minute l)) (leg_worth t flown prices 0) (legs_in t) (leg_bound prices reason) in
      above_zero t flown prices reason.no_charges (omega (arith, ints, each, sum_below_ℤ-pos (busy_on t keeps p minute) (legs_in t), rents_are t rule.TooFewAircraft p prices reason, all_rents, too_few))

pub too_few_refutes : (t : Tables) (keeps : Domains) (p : Pair) (prices : Prices) → IsPair t p → fleet_by t p < fleets_in t → keeps p ≡ true
    → (fleet_of t (fleet_by t p)).aircraft < surely_busy t keeps p (departure t p) → IsReason t rule.TooFewAircraft p prices → pos 0 <ℤ worth_of t (part keeps p.leg p.choice true) prices 0
too_few_refutes t keeps p prices pair flies kept too_few reason = refuted t keeps p pair flies kept prices reason too_few
