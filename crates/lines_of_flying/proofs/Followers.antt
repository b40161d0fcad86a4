-- Beside given pairs that some fitting map holds, one leg follows each leg of a fleet first in, first out, and no leg
-- follows two.
use Rattle.std.proofs.Common.{◌≡◌, ◌≢◌, ℕ, ◌+◌, ◌%◌, ◌<◌, ◌≤◌, Bool, true, false, if◌then◌else◌, ◌==◌, ◌&&◌, nat_le, List, length, refl, sym, ◌∙◌, ap, subst, arith}
use Rattle.std.proofs.lemmas.Nat.{mod_below}
use Rattle.std.proofs.lemmas.Bool.{and_from, and_parts, eqb-true, eq-eqb, eqb-false}
use Rattle.sums.specs.Below.{count_below}
use Rattle.sums.proofs.Counts.{count_below-some}
use Rattle.sums.proofs.Maxima.{max_below-least}
use Rattle.sums.proofs.Sums.{sum_below-agree, sum_below-le}
use Rattle.sums.proofs.NumberTests.{some_tested}
use Rattle.sums.proofs.Naturals.{none_is_some, some_above, zero_number}
use Rattle.fleet_model.specs.declared.parts.Connection.{Connection}
use Rattle.fleet_model.specs.declared.tables.Tables.{Tables}
use Rattle.fleet_model.specs.Counts.{choice_at}
use Rattle.fleet_model.specs.Schedule.{leg_of, leg_on, legs_in, period_of}
use Rattle.fleet_model.specs.Times.{departure}
use Rattle.lines_of_flying.specs.ground_turns.FirstOut.{departure_place, free_departed, free_excess, free_landings, free_need, is_free_departure, is_free_landing, landing_place}
use Rattle.lines_of_flying.specs.ground_turns.Maps.{IsNext, HasTurn, IsHeldByMap, IsSuccessorMap, arrivals_of, departures_of, turn_at}
use Rattle.lines_of_flying.specs.ground_turns.Turns.{IsTurn}
use Rattle.lines_of_flying.proofs.ground_turns.FleetTurns.{pick, picked}
use Rattle.lines_of_flying.proofs.ground_turns.FreeTurns.{all_there, by_arriving, by_departing, there, there_is}
use Rattle.lines_of_flying.proofs.ground_turns.Places.{departure_is, departure_key, departures_differ, landing_is, landing_key, landings_differ}
use Rattle.lines_of_flying.proofs.ground_turns.Ranks.{one_place, place_taken, place_within}
use Rattle.lines_of_flying.proofs.ground_turns.Rounds.{bit, bit_times_both, part_at_most}
use Rattle.lines_of_flying.proofs.ground_turns.SomeMap.{same_round}
use Rattle.lines_of_flying.proofs.ground_turns.Totals.{some_counted}
use Rattle.lines_of_flying.proofs.ground_turns.Waits.{over_departures}
use Rattle.lines_of_flying.specs.Following.{Follows, IsFirstOutNext, landing_at, next_place}

module _ (t : Tables) (a : List ℕ) (f : ℕ) (given : List Connection) where
  -- the departure is free, and its place is the one that follows the leg
  unfoldable pub goes_next : ℕ → ℕ → Bool
  goes_next l q = is_free_departure t a f given (landing_at t l) q && (departure_place t a f given (landing_at t l) q == next_place t a f given l)

  unfoldable pub partner_of : ℕ → ℕ
  partner_of l = (turn_at given (pick (λ g. (turn_at given g).arriving == l) (length given))).departing

  -- the leg that follows, as a function of the leg
  unfoldable pub next : ℕ → ℕ
  next l = if arrivals_of given l == 0 then pick (goes_next l) (legs_in t) else partner_of l

module _ (t : Tables) (a : List ℕ) (f : ℕ) (given : List Connection) (held : IsHeldByMap t a f given) where
  abbrev map : IsSuccessorMap t a f held.turns
  map = held.fitting.map

  abbrev flies : ℕ → Bool
  flies l = choice_at a l == f

  -- as many departures are free at a station as landings
  free_departures : (s : ℕ) → count_below (is_free_departure t a f given s) (legs_in t) ≡ free_landings t a f given s
  unfolding there
  free_departures s =
      sym (sum_below-agree (λ k. bit (there t a f given held.turns map held.holds s k)) _ (length held.turns) (record { each = λ k lt. ap bit (there_is t a f given held.turns map held.holds s k lt) })
      ∙ over_departures t a f held.turns map (λ l. bit (((leg_of t l).from == s) && (departures_of given l == 0)))
      ∙ sum_below-agree _ _ (legs_in t) (record { each = λ l below. bit_times_both (flies l) ((leg_of t l).from == s) (departures_of given l == 0) }))
      ∙ all_there t a f given held.turns map held.holds s

  departed_few : (s m : ℕ) → free_departed t a f given s m ≤ count_below (is_free_departure t a f given s) (legs_in t)
  unfolding free_departed
  departed_few s m = sum_below-le _ (λ l. bit (is_free_departure t a f given s l)) (legs_in t) (record { each = λ l below. part_at_most (is_free_departure t a f given s l) (nat_le (departure t (leg_on l f)) m) })

  -- no more aircraft must be there than land
  few_needed : (s : ℕ) → free_need t a f given s ≤ free_landings t a f given s
  unfolding free_need
  few_needed s =
      max_below-least (free_excess t a f given s) (free_landings t a f given s) (period_of t)
      (record { each = λ m moment. omega (arith, departed_few s m, free_departures s) })

  lands : (l : ℕ) → flies l ≡ true → arrivals_of given l ≡ 0 → is_free_landing t a f given (landing_at t l) l ≡ true
  lands l on free = and_from _ _ (and_from _ _ on (eq-eqb _ _ refl)) (eq-eqb _ 0 free)

  pub place_low : (l : ℕ) → l < legs_in t → flies l ≡ true → arrivals_of given l ≡ 0 → landing_place t a f given (landing_at t l) l < free_landings t a f given (landing_at t l)
  unfolding free_landings
  place_low l below on free =
      let s = landing_at t l in
      subst (λ n. n < count_below (is_free_landing t a f given s) (legs_in t)) (sym (landing_is t a f given s l below))
      (place_within (is_free_landing t a f given s) (landing_key t a f given s) (legs_in t) (landings_differ t a f given s) l below (lands l on free))

  -- a free landing has a free departure at its place
  pub next_found : (l : ℕ) → l < legs_in t → flies l ≡ true → arrivals_of given l ≡ 0 → (q : ℕ) × IsFirstOutNext t a f given l q
  unfolding next_place
  next_found l below on free =
      let s = landing_at t l in
      let low : next_place t a f given l < free_landings t a f given s = mod_below _ (free_landings t a f given s) (some_above (place_low l below on free)) in
      let fits : next_place t a f given l < count_below (is_free_departure t a f given s) (legs_in t) = omega (arith, low, free_departures s) in
      let found = place_taken (is_free_departure t a f given s) (departure_key t a f given s) (legs_in t) (departures_differ t a f given s) (next_place t a f given l) fits in
      (found.0, record { known = found.1; free = found.2; place = departure_is t a f given s found.0 found.1 ∙ found.3 })

  -- at one place there is one
  one_next : (l q r : ℕ) → IsFirstOutNext t a f given l q → IsFirstOutNext t a f given l r → q ≡ r
  one_next l q r x y =
      let s = landing_at t l in
      one_place (is_free_departure t a f given s) (departure_key t a f given s) (legs_in t) (departures_differ t a f given s) q r x.known y.known x.free y.free
      (sym (departure_is t a f given s q x.known) ∙ x.place ∙ sym y.place ∙ departure_is t a f given s r y.known)

  -- given pairs of one leg are one pair
  same_arriving : (g h : ℕ) → g < length given → h < length given → (turn_at given g).arriving ≡ (turn_at given h).arriving → turn_at given g ≡ turn_at given h
  same_arriving g h within lt e =
      let place = held.holds.each h lt in
      sym (by_arriving t a f given held.turns map held.holds g place.place within place.within (e ∙ ap (λ turn. turn.arriving) (sym place.there))) ∙ place.there

  same_departing : (g h : ℕ) → g < length given → h < length given → (turn_at given g).departing ≡ (turn_at given h).departing → turn_at given g ≡ turn_at given h
  same_departing g h within lt e =
      let place = held.holds.each h lt in
      sym (by_departing t a f given held.turns map held.holds g place.place within place.within (e ∙ ap (λ turn. turn.departing) (sym place.there))) ∙ place.there

  -- and each is a turn
  pub given_turn : (g : ℕ) → g < length given → IsTurn t a f (turn_at given g)
  given_turn g within = let place = held.holds.each g within in subst (IsTurn t a f) place.there (map.each place.place place.within)

  -- what a leg that follows beside the given pairs is
  departs_free : (l q : ℕ) → IsFirstOutNext t a f given l q → (flies q ≡ true) × ((leg_of t q).from ≡ landing_at t l) × (departures_of given q ≡ 0)
  departs_free l q x =
      let parts = and_parts _ _ x.free in
      let first = and_parts _ _ parts.0 in
      (first.0, eqb-true _ _ first.1, zero_number _ parts.1)

  by_pairs : (l : ℕ) → (P : Type 0) → (arrivals_of given l ≡ 0 → P) → (arrivals_of given l ≢ 0 → P) → P
  by_pairs l P free paired = by_test (arrivals_of given l == 0) refl
    where
      by_test : (b : Bool) → (arrivals_of given l == 0) ≡ b → P
      by_test true e = free (zero_number _ e)
      by_test false e = paired (eqb-false _ 0 e)

  -- it is a turn from one leg to the other
  follows_turn : (l q : ℕ) → l < legs_in t → flies l ≡ true → Follows t a f given l q → IsTurn t a f (record { arriving = l; departing = q })
  follows_turn l q below on x = by_pairs l (IsTurn t a f (record { arriving = l; departing = q }))
      (λ free.
      let next = x.first_out free in
      let parts = departs_free l q next in
      record { arriving = below; departing = next.known; comes_on = eqb-true _ _ on; leaves_on = eqb-true _ _ parts.0; meets = sym parts.1 })
      (λ some. let pair = x.partner some in subst (IsTurn t a f) pair.there (given_turn pair.place pair.within))

  -- one leg follows a leg
  pub one_follows : (l q r : ℕ) → Follows t a f given l q → Follows t a f given l r → q ≡ r
  one_follows l q r x y = by_pairs l (q ≡ r)
      (λ free. one_next l q r (x.first_out free) (y.first_out free))
      (λ some.
      let first = x.partner some in
      let second = y.partner some in
      let same = same_arriving first.place second.place first.within second.within (ap (λ turn. turn.arriving) first.there ∙ sym (ap (λ turn. turn.arriving) second.there)) in
      ap (λ turn. turn.departing) (sym first.there ∙ same ∙ second.there))

  -- a partner is no free departure
  not_both : (l k q : ℕ) → IsFirstOutNext t a f given l q → HasTurn given (record { arriving = k; departing = q }) → ⊥
  not_both l k q x pair =
      let none = (departs_free l q x).2 in
      let some = count_below-some (λ g. (turn_at given g).departing == q) (length given) pair.place pair.within (eq-eqb _ _ (ap (λ turn. turn.departing) pair.there)) in
      clash none some
    where
      clash : departures_of given q ≡ 0 → 1 ≤ departures_of given q → ⊥
      clash e h = omega arith

  -- two free landings with one place are one
  same_landing : (l k q : ℕ) → l < legs_in t → k < legs_in t → flies l ≡ true → flies k ≡ true → arrivals_of given l ≡ 0 → arrivals_of given k ≡ 0
      → IsFirstOutNext t a f given l q → IsFirstOutNext t a f given k q → l ≡ k
  unfolding next_place
  same_landing l k q below within on on' free free' x y =
      let s = landing_at t l in
      let same : landing_at t k ≡ s = sym (departs_free k q y).1 ∙ (departs_free l q x).1 in
      let there : departure_place t a f given s q ≡ (landing_place t a f given s k + free_need t a f given s) % free_landings t a f given s =
      subst (λ at. departure_place t a f given at q ≡ (landing_place t a f given at k + free_need t a f given at) % free_landings t a f given at) same y.place in
      let low : landing_place t a f given s k < free_landings t a f given s = subst (λ at. landing_place t a f given at k < free_landings t a f given at) same (place_low k within on' free') in
      let places = same_round (landing_place t a f given s l) (landing_place t a f given s k) (free_need t a f given s) (free_landings t a f given s)
      (place_low l below on free) low (few_needed s) (sym x.place ∙ there) in
      one_place (is_free_landing t a f given s) (landing_key t a f given s) (legs_in t) (landings_differ t a f given s) l k below within
      (lands l on free) (subst (λ at. is_free_landing t a f given at k ≡ true) same (lands k on' free'))
      (sym (landing_is t a f given s l below) ∙ places ∙ landing_is t a f given s k within)

  -- no leg follows two
  one_before : (l k q : ℕ) → l < legs_in t → k < legs_in t → flies l ≡ true → flies k ≡ true → Follows t a f given l q → Follows t a f given k q → l ≡ k
  one_before l k q below within on on' x y = by_pairs l (l ≡ k)
      (λ free. by_pairs k (l ≡ k)
      (λ free'. same_landing l k q below within on on' free free' (x.first_out free) (y.first_out free'))
      (λ some. absurd (not_both l k q (x.first_out free) (y.partner some))))
      (λ some. by_pairs k (l ≡ k)
      (λ free'. absurd (not_both k l q (y.first_out free') (x.partner some)))
      (λ some'.
      let first = x.partner some in
      let second = y.partner some' in
      let same = same_departing first.place second.place first.within second.within (ap (λ turn. turn.departing) first.there ∙ sym (ap (λ turn. turn.departing) second.there)) in
      ap (λ turn. turn.arriving) (sym first.there ∙ same ∙ second.there)))

  -- the leg that the function gives follows
  pub next_follows : (l : ℕ) → l < legs_in t → flies l ≡ true → Follows t a f given l (next t a f given l)
  unfolding next goes_next partner_of
  next_follows l below on = by_test (arrivals_of given l == 0) refl
    where
      by_test : (b : Bool) → (arrivals_of given l == 0) ≡ b → Follows t a f given l (if b then pick (goes_next t a f given l) (legs_in t) else partner_of t a f given l)
      by_test true e =
          let none = zero_number _ e in
          let found = next_found l below on none in
          let x = found.1 in
          let chosen = picked (goes_next t a f given l) (legs_in t) found.0 x.known (and_from _ _ x.free (eq-eqb _ _ x.place)) in
          let parts = and_parts _ _ chosen.1 in
          record {
            partner = λ some. absurd (some none);
            first_out = λ free. record { known = chosen.0; free = parts.0; place = eqb-true _ _ parts.1 };
          }
      by_test false e =
          let some = some_tested _ e in
          let found = some_counted (λ g. (turn_at given g).arriving == l) (length given) some in
          let chosen = picked (λ g. (turn_at given g).arriving == l) (length given) found.0 found.1 found.2 in
          record {
            partner = λ more. record {
              place = pick (λ g. (turn_at given g).arriving == l) (length given);
              within = chosen.0;
              there = ap (λ k. record { arriving = k; departing = partner_of t a f given l }) (eqb-true _ _ chosen.1);
            };
            first_out = λ free. absurd (none_is_some free some);
          }

  pub is_next : IsNext t a f (next t a f given)
  is_next = record {
    turn = λ l below on. follows_turn l (next t a f given l) below (eq-eqb _ _ on) (next_follows l below (eq-eqb _ _ on));
    once = λ l k below within on on' same.
        one_before l k (next t a f given k) below within (eq-eqb _ _ on) (eq-eqb _ _ on')
        (subst (Follows t a f given l) same (next_follows l below (eq-eqb _ _ on))) (next_follows k within (eq-eqb _ _ on'));
  }

  -- a free landing is one of some
  pub some_landings : (l station n : ℕ) → l < legs_in t → choice_at a l ≡ f → arrivals_of given l ≡ 0 → station ≡ landing_at t l → n ≡ free_landings t a f given station → 0 < n
  some_landings l station n below on free same count =
      let low = place_low l below (eq-eqb _ _ on) free in
      let there = ap (free_landings t a f given) same in
      omega (arith, low, there, count)

  -- not all departures are none that follows a free landing
  pub some_follows : (l : ℕ) → l < legs_in t → choice_at a l ≡ f → arrivals_of given l ≡ 0 → ¬ ((q : ℕ) → q < legs_in t → ¬ (IsFirstOutNext t a f given l q))
  some_follows l below on free none = let found = next_found l below (eq-eqb _ _ on) free in none found.0 found.1.known found.1

-- a partner follows
pub partner_follows : (t : Tables) (a : List ℕ) (f : ℕ) (given : List Connection) (l q : ℕ) → HasTurn given (record { arriving = l; departing = q }) → Follows t a f given l q
partner_follows t a f given l q has = record {
  partner = λ some. has;
  first_out = λ free. absurd (clash free (count_below-some (λ h. (turn_at given h).arriving == l) (length given) has.place has.within (eq-eqb _ _ (ap (λ turn. turn.arriving) has.there))));
}
  where
    clash : {n : ℕ} → n ≡ 0 → 1 ≤ n → ⊥
    clash e h = omega arith
