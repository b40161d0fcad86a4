-- The turns of a map beside given pairs: how many of them cross the period's start.
use Rattle.std.proofs.Common.{◌≡◌, ℕ, ◌+◌, ◌*◌, ◌<◌, ◌≤◌, Bool, true, false, not, ◌==◌, ◌&&◌, nat_le, List, length, refl, sym, ◌∙◌, ap, subst, inl, inr, arith}
use mathlib.Core.Bool.{false≢true}
use Rattle.std.proofs.lemmas.Bool.{cases_order, and_from, and_parts, eqb-true, eq-eqb}
use Rattle.std.proofs.lemmas.Bool.Decides.{nat_tests}
use Rattle.sums.specs.Below.{sum_below, count_below}
use Rattle.sums.proofs.Counts.{count_below-some, count_below-two}
use Rattle.sums.proofs.Maxima.{max_below-least}
use Rattle.sums.proofs.Sums.{sum_below-agree, sum_below-add}
use Rattle.sums.proofs.Tests.{not_true, same_tests}
use Rattle.sums.proofs.NumberTests.{some_tested}
use Rattle.fleet_model.specs.declared.parts.Connection.{Connection}
use Rattle.fleet_model.specs.declared.tables.Tables.{Tables}
use Rattle.fleet_model.specs.Counts.{choice_at, weights_of}
use Rattle.fleet_model.specs.Schedule.{leg_of, leg_on, legs_in, period_of}
use Rattle.fleet_model.specs.Times.{departure, ready_minute}
use Rattle.lines_of_flying.specs.ground_turns.FirstOut.{free_departed, free_excess, free_landed, free_landings, free_need}
use Rattle.lines_of_flying.specs.ground_turns.Maps.{Holds, IsSuccessorMap, arrivals_of, crosses_there, crossings_at, departures_of, turn_at}
use Rattle.lines_of_flying.specs.ground_turns.Turns.{crosses, departs_at, ready_at, station_at, waits_at}
use Rattle.lines_of_flying.proofs.ground_turns.Rounds.{bit, bit_times_both, moment_law}
use Rattle.lines_of_flying.proofs.ground_turns.Totals.{some_counted}
use Rattle.lines_of_flying.proofs.ground_turns.Waits.{at_station, departs_within, over_arrivals, over_departures, ready_within}

-- two that pass are one where at most one is counted
pub once : (p : ℕ → Bool) (n j k : ℕ) → count_below p n ≤ 1 → j < n → k < n → p j ≡ true → p k ≡ true → j ≡ k
once p n j k few first second h g = elim (cases_order j k) [
  | inl same ↦ same
  | inr other ↦ elim other [
    | inl before ↦ absurd (omega (arith, count_below-two p n j k before second h g))
    | inr after ↦ absurd (omega (arith, count_below-two p n k j after first g h))
  ]
]

bit_few : (b : Bool) → bit b ≤ 1
bit_few b = grind (arith, nat_tests)

some_test : (n : ℕ) → 0 < n → (n == 0) ≡ false
some_test n h = grind (arith, nat_tests)

both_ways : (b : Bool) → (b ≡ false → ⊥) → b ≡ true
both_ways true h = refl
both_ways false h = absurd (h refl)

pub landed_part : (w b r c : Bool) → bit w * bit ((b && c) && r) ≡ bit (((w && b) && c) && r)
landed_part true b r c = omega arith
landed_part false b r c = omega arith

in_two : (s c x : Bool) → bit (s && x) ≡ bit ((s && c) && x) + bit ((s && not c) && x)
in_two true true x = omega arith
in_two true false x = omega arith
in_two false c x = refl

where_given : (s c x y : Bool) → (c ≡ false → x ≡ y) → bit ((s && not c) && x) ≡ bit ((s && not c) && y)
where_given true true x y h = refl
where_given true false x y h = ap bit (h refl)
where_given false c x y h = refl

-- a given pair of the leg crosses
abbrev pub given_crosses : Tables → ℕ → List Connection → ℕ → ℕ → Bool
given_crosses t f given l g = ((turn_at given g).arriving == l) && crosses t f (turn_at given g)

abbrev pub crosses_by_given : Tables → ℕ → List Connection → ℕ → Bool
crosses_by_given t f given l = not (count_below (given_crosses t f given l) (length given) == 0)

-- a leg that lands at the station with a given pair that crosses
abbrev pub given_at : Tables → ℕ → List Connection → ℕ → ℕ → Bool
given_at t f given s l = (((leg_of t l).to == s) && not (arrivals_of given l == 0)) && crosses_by_given t f given l

module _ (t : Tables) (a : List ℕ) (f : ℕ) (given turns : List Connection) (map : IsSuccessorMap t a f turns) (holds : Holds turns given) where
  one_arriving : (j k : ℕ) → j < length turns → k < length turns → (turn_at turns j).arriving ≡ (turn_at turns k).arriving → j ≡ k
  one_arriving j k first second e =
      once (λ q. (turn_at turns q).arriving == (turn_at turns k).arriving) (length turns) j k
      (omega (arith, map.arrives (turn_at turns k).arriving (map.each k second).arriving, bit_few (choice_at a (turn_at turns k).arriving == f)))
      first second (eq-eqb _ _ e) (eq-eqb _ _ refl)

  one_departing : (j k : ℕ) → j < length turns → k < length turns → (turn_at turns j).departing ≡ (turn_at turns k).departing → j ≡ k
  one_departing j k first second e =
      once (λ q. (turn_at turns q).departing == (turn_at turns k).departing) (length turns) j k
      (omega (arith, map.departs (turn_at turns k).departing (map.each k second).departing, bit_few (choice_at a (turn_at turns k).departing == f)))
      first second (eq-eqb _ _ e) (eq-eqb _ _ refl)

  -- the turn of a leg that a given pair has is that pair
  pub by_arriving : (g k : ℕ) → g < length given → k < length turns → (turn_at given g).arriving ≡ (turn_at turns k).arriving → turn_at turns k ≡ turn_at given g
  by_arriving g k within lt e =
      let held = holds.each g within in
      let same : held.place ≡ k = one_arriving held.place k held.within lt (ap (λ turn. turn.arriving) held.there ∙ e) in
      subst (λ q. turn_at turns q ≡ turn_at given g) same held.there

  pub by_departing : (g k : ℕ) → g < length given → k < length turns → (turn_at given g).departing ≡ (turn_at turns k).departing → turn_at turns k ≡ turn_at given g
  by_departing g k within lt e =
      let held = holds.each g within in
      let same : held.place ≡ k = one_departing held.place k held.within lt (ap (λ turn. turn.departing) held.there ∙ e) in
      subst (λ q. turn_at turns q ≡ turn_at given g) same held.there

  -- the turn is none of the given pairs
  unfoldable pub is_free : ℕ → Bool
  is_free k = arrivals_of given (turn_at turns k).arriving == 0

  -- its departure is free where its landing is
  pub free_both : (k : ℕ) → k < length turns → is_free k ≡ (departures_of given (turn_at turns k).departing == 0)
  unfolding is_free
  free_both k lt = same_tests (arrivals_of given (turn_at turns k).arriving == 0) (departures_of given (turn_at turns k).departing == 0)
      (λ e. both_ways _ (λ none.
      let found = some_counted (λ g. (turn_at given g).departing == (turn_at turns k).departing) (length given) (some_tested _ none) in
      let same = by_departing found.0 k found.1 lt (eqb-true _ _ found.2) in
      let some = count_below-some (λ g. (turn_at given g).arriving == (turn_at turns k).arriving) (length given) found.0 found.1 (eq-eqb _ _ (ap (λ turn. turn.arriving) (sym same))) in
      absurd (false≢true (sym (some_test _ some) ∙ e))))
      (λ e. both_ways _ (λ none.
      let found = some_counted (λ g. (turn_at given g).arriving == (turn_at turns k).arriving) (length given) (some_tested _ none) in
      let same = by_arriving found.0 k found.1 lt (eqb-true _ _ found.2) in
      let some = count_below-some (λ g. (turn_at given g).departing == (turn_at turns k).departing) (length given) found.0 found.1 (eq-eqb _ _ (ap (λ turn. turn.departing) (sym same))) in
      absurd (false≢true (sym (some_test _ some) ∙ e))))

  -- a free turn at a station
  unfoldable pub there : ℕ → ℕ → Bool
  there s k = (station_at t (turn_at turns k) == s) && is_free k

  unfoldable pub free_crossings : ℕ → ℕ
  free_crossings s = count_below (λ k. there s k && crosses t f (turn_at turns k)) (length turns)

  pub all_there : (s : ℕ) → count_below (there s) (length turns) ≡ free_landings t a f given s
  unfolding there is_free free_landings
  all_there s =
      over_arrivals t a f turns map (λ l. bit (((leg_of t l).to == s) && (arrivals_of given l == 0)))
      ∙ sum_below-agree _ _ (legs_in t) (record { each = λ l below. bit_times_both (choice_at a l == f) ((leg_of t l).to == s) (arrivals_of given l == 0) })

  all_landed : (s m : ℕ) → count_below (λ k. there s k && nat_le (ready_at t f (turn_at turns k)) m) (length turns) ≡ free_landed t a f given s m
  unfolding there is_free free_landed
  all_landed s m =
      over_arrivals t a f turns map (λ l. bit ((((leg_of t l).to == s) && (arrivals_of given l == 0)) && nat_le (ready_minute t (leg_on l f)) m))
      ∙ sum_below-agree _ _ (legs_in t) (record { each = λ l below. landed_part (choice_at a l == f) ((leg_of t l).to == s) (nat_le (ready_minute t (leg_on l f)) m) (arrivals_of given l == 0) })

  -- it is there as one that departs
  pub there_is : (s k : ℕ) → k < length turns → there s k ≡ (((leg_of t (turn_at turns k).departing).from == s) && (departures_of given (turn_at turns k).departing == 0))
  unfolding there
  there_is s k lt =
      ap (λ at. (at == s) && is_free k) (map.each k lt).meets
      ∙ ap (λ free. ((leg_of t (turn_at turns k).departing).from == s) && free) (free_both k lt)

  pub all_departed : (s m : ℕ) → count_below (λ k. there s k && nat_le (departs_at t f (turn_at turns k)) m) (length turns) ≡ free_departed t a f given s m
  unfolding free_departed there
  all_departed s m =
      sum_below-agree _ _ (length turns) (record { each = λ k lt. ap (λ free. bit (free && nat_le (departs_at t f (turn_at turns k)) m)) (there_is s k lt) })
      ∙ over_departures t a f turns map (λ l. bit ((((leg_of t l).from == s) && (departures_of given l == 0)) && nat_le (departure t (leg_on l f)) m))
      ∙ sum_below-agree _ _ (legs_in t) (record { each = λ l below. landed_part (choice_at a l == f) ((leg_of t l).from == s) (nat_le (departure t (leg_on l f)) m) (departures_of given l == 0) })

  -- how many free turns wait at a station at a moment
  unfoldable pub free_waiting : ℕ → ℕ → ℕ
  free_waiting s m = count_below (λ k. there s k && waits_at t f (turn_at turns k) m) (length turns)

  -- with free departures by then they are the free landings by then and the free turns that cross
  pub free_turns_law : (s m : ℕ) → m < period_of t → free_waiting s m + free_departed t a f given s m ≡ free_landed t a f given s m + free_crossings s
  unfolding free_crossings free_waiting
  free_turns_law s m moment =
      let same = sum_below-agree (λ k. bit (there s k && waits_at t f (turn_at turns k) m) + bit (there s k && nat_le (departs_at t f (turn_at turns k)) m))
      (λ k. bit (there s k && nat_le (ready_at t f (turn_at turns k)) m) + bit (there s k && crosses t f (turn_at turns k))) (length turns)
      (record {
        each = λ k lt. at_station (there s k) (waits_at t f (turn_at turns k) m) (nat_le (departs_at t f (turn_at turns k)) m)
            (nat_le (ready_at t f (turn_at turns k)) m) (crosses t f (turn_at turns k))
            (moment_law (period_of t) (ready_at t f (turn_at turns k)) (departs_at t f (turn_at turns k)) m (ready_within t a f turns map k) (departs_within t a f turns map k lt) moment);
      }) in
      let left = sum_below-add (λ k. bit (there s k && waits_at t f (turn_at turns k) m)) (λ k. bit (there s k && nat_le (departs_at t f (turn_at turns k)) m)) (length turns) in
      let right = sum_below-add (λ k. bit (there s k && nat_le (ready_at t f (turn_at turns k)) m)) (λ k. bit (there s k && crosses t f (turn_at turns k))) (length turns) in
      omega (arith, same, left, right, all_landed s m, all_departed s m)

  -- the free need is at most the free turns that cross
  pub need_crosses : (s : ℕ) → free_need t a f given s ≤ free_crossings s
  unfolding free_need
  need_crosses s = max_below-least (free_excess t a f given s) (free_crossings s) (period_of t) (record { each = λ m moment. omega (arith, free_turns_law s m moment) })

  -- a turn that is given crosses as the given pairs say
  as_given : (k : ℕ) → k < length turns → is_free k ≡ false → crosses t f (turn_at turns k) ≡ crosses_by_given t f given (turn_at turns k).arriving
  unfolding is_free
  as_given k lt none =
      let found = some_counted (λ g. (turn_at given g).arriving == (turn_at turns k).arriving) (length given) (some_tested _ none) in
      let same = by_arriving found.0 k found.1 lt (eqb-true _ _ found.2) in
      same_tests (crosses t f (turn_at turns k)) (crosses_by_given t f given (turn_at turns k).arriving)
      (λ e. not_false (some_test _ (count_below-some (given_crosses t f given (turn_at turns k).arriving) (length given) found.0 found.1
      (and_from _ _ found.2 (subst (λ turn. crosses t f turn ≡ true) same e)))))
      (λ e.
      let crossing = some_counted (given_crosses t f given (turn_at turns k).arriving) (length given) (some_tested _ (not_true _ e)) in
      let parts = and_parts _ _ crossing.2 in
      subst (λ turn. crosses t f turn ≡ true) (sym (by_arriving crossing.0 k crossing.1 lt (eqb-true _ _ parts.0))) parts.1)
    where
      not_false : {b : Bool} → b ≡ false → not b ≡ true
      not_false e = ap not e

  one_crossing : (s k : ℕ) → k < length turns → bit (crosses_there t f turns s k)
      ≡ bit (((station_at t (turn_at turns k) == s) && is_free k) && crosses t f (turn_at turns k)) + bit (given_at t f given s (turn_at turns k).arriving)
  unfolding is_free
  one_crossing s k lt =
      in_two (station_at t (turn_at turns k) == s) (is_free k) (crosses t f (turn_at turns k))
      ∙ ap (λ n. bit (((station_at t (turn_at turns k) == s) && is_free k) && crosses t f (turn_at turns k)) + n)
      (where_given (station_at t (turn_at turns k) == s) (is_free k) (crosses t f (turn_at turns k)) (crosses_by_given t f given (turn_at turns k).arriving) (as_given k lt))

  -- the turns that cross are free ones and given ones
  pub crossings_are : (s : ℕ) → crossings_at t f turns s ≡ free_crossings s + sum_below (λ l. weights_of a (leg_on l f) * bit (given_at t f given s l)) (legs_in t)
  unfolding free_crossings there
  crossings_are s =
      let same = sum_below-agree (λ k. bit (crosses_there t f turns s k))
      (λ k. bit (((station_at t (turn_at turns k) == s) && is_free k) && crosses t f (turn_at turns k)) + bit (given_at t f given s (turn_at turns k).arriving)) (length turns)
      (record { each = λ k lt. one_crossing s k lt }) in
      let parts = sum_below-add (λ k. bit (((station_at t (turn_at turns k) == s) && is_free k) && crosses t f (turn_at turns k)))
      (λ k. bit (given_at t f given s (turn_at turns k).arriving)) (length turns) in
      omega (arith, same, parts, over_arrivals t a f turns map (λ l. bit (given_at t f given s l)))
