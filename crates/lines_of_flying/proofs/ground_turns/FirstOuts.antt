-- Where aircraft depart first in, first out, no more free turns cross than are needed; so the map fits.
use Rattle.std.proofs.Common.{◌≡◌, ℕ, suc, ◌+◌, ◌*◌, ◌<◌, ◌≤◌, inl, inr, Bool, true, false, ◌==◌, ◌&&◌, nat_lt, nat_le, List, length, refl, sym, ◌∙◌, ap, subst, arith, le_trans}
use Rattle.std.proofs.lemmas.Bool.{cases_eq, and_from, and_parts, eqb-true, eq-eqb, ltb-true, lt-ltb}
use Rattle.std.proofs.lemmas.Bool.Decides.{nat_tests}
use Rattle.sums.specs.Below.{count_below}
use Rattle.sums.proofs.Rounds.{mod_cases}
use Rattle.sums.proofs.Maxima.{max_below-upper}
use Rattle.sums.proofs.Sums.{sum_below-agree, sum_below-add, sum_below-le, sum_below-one, sum_below-zero}
use Rattle.fleet_model.specs.declared.parts.Connection.{Connection}
use Rattle.fleet_model.specs.declared.tables.Tables.{Tables}
use Rattle.fleet_model.specs.Counts.{choice_at, weights_of}
use Rattle.fleet_model.specs.Schedule.{leg_of, leg_on, legs_in, period_of, stations_in}
use Rattle.fleet_model.specs.Times.{departure, ready_minute}
use Rattle.lines_of_flying.specs.ground_turns.FirstOut.{AreFirstOut, departs_before, departure_place, free_departed, free_excess, free_landed, free_landings, free_need, is_before, is_free_departure, is_free_landing, landing_place, lands_before}
use Rattle.lines_of_flying.specs.ground_turns.Laws.{FirstOutFits, surplus_at}
use Rattle.lines_of_flying.specs.ground_turns.Maps.{Holds, IsSuccessorMap, arrivals_of, departures_of, turn_at}
use Rattle.lines_of_flying.specs.ground_turns.Turns.{crosses, departs_at, ready_at, station_at}
use Rattle.lines_of_flying.proofs.ground_turns.Fits.{no_surplus, periods_beyond_use}
use Rattle.lines_of_flying.proofs.ground_turns.FreeTurns.{all_there, crossings_are, free_both, free_crossings, is_free, landed_part, need_crosses, there, there_is}
use Rattle.lines_of_flying.proofs.ground_turns.Places.{departure_is, departure_key, departures_differ, landing_is, landing_key, landings_differ}
use Rattle.lines_of_flying.proofs.ground_turns.Ranks.{few_places, keyed_below, place_within}
use Rattle.lines_of_flying.proofs.ground_turns.Rounds.{bit, part_at_most}
use Rattle.lines_of_flying.proofs.ground_turns.Waits.{crossings_suffice, departs_within, over_departures}

-- a number from another on
last_before : (p : Bool) (x q d m : ℕ) → (m ≡ q → (p ≡ true) × (x ≡ d)) → bit (p && is_before x q d m) + bit (m == q) ≤ bit (p && nat_le x d)
last_before p x q d m h = elim (cases_eq m q) [
  | inl same ↦ let parts = h same in at_last p x q d m same parts.0 parts.1
  | inr other ↦ grind (arith, nat_tests)
]
  where
    at_last : (p : Bool) (x q d m : ℕ) → m ≡ q → p ≡ true → x ≡ d → bit (p && is_before x q d m) + bit (m == q) ≤ bit (p && nat_le x d)
    at_last p x q d m same passes equal = grind (arith, nat_tests)

pub all_before : (p : Bool) (x q d r l : ℕ) → d < r → bit (p && nat_le x d) ≤ bit (p && is_before x q r l)
all_before p x q d r l less = grind (arith, nat_tests)

and_le : (b c d : Bool) → (b ≡ true → c ≡ true → d ≡ true) → bit (b && c) ≤ bit (b && d)
and_le true true d h = let e = h refl refl in grind arith
and_le true false d h = omega arith
and_le false c d h = omega arith

module _ (t : Tables) (a : List ℕ) (f : ℕ) (given turns : List Connection) (map : IsSuccessorMap t a f turns) (holds : Holds turns given) where
  abbrev pub crossings : ℕ → ℕ
  crossings = free_crossings t a f given turns map holds

  -- no more cross than there are
  pub few_cross : (s : ℕ) → crossings s ≤ free_landings t a f given s
  unfolding free_crossings
  few_cross s =
      let less = sum_below-le (λ k. bit (there t a f given turns map holds s k && crosses t f (turn_at turns k))) (λ k. bit (there t a f given turns map holds s k)) (length turns)
      (record { each = λ k lt. part_at_most (there t a f given turns map holds s k) (crosses t f (turn_at turns k)) }) in
      omega (arith, less, all_there t a f given turns map holds s)

  -- the legs of a free turn are free
  pub lands_free : (k : ℕ) → k < length turns → is_free t a f given turns map holds k ≡ true → is_free_landing t a f given (station_at t (turn_at turns k)) (turn_at turns k).arriving ≡ true
  unfolding is_free
  lands_free k lt free = and_from _ _ (and_from _ _ (eq-eqb _ _ (map.each k lt).comes_on) (eq-eqb _ _ refl)) free

  pub departs_free : (k : ℕ) → k < length turns → is_free t a f given turns map holds k ≡ true → is_free_departure t a f given (station_at t (turn_at turns k)) (turn_at turns k).departing ≡ true
  departs_free k lt free =
      and_from _ _ (and_from _ _ (eq-eqb _ _ (map.each k lt).leaves_on) (eq-eqb _ _ (sym (map.each k lt).meets))) (sym (free_both t a f given turns map holds k lt) ∙ free)

  -- free departures by a minute are at most the free landings by then and the free need
  excess_needed : (s m : ℕ) → m < period_of t → free_departed t a f given s m ≤ free_landed t a f given s m + free_need t a f given s
  unfolding free_need
  excess_needed s m moment = omega (arith, max_below-upper (free_excess t a f given s) (period_of t) m moment)

  -- the counts at the departure of a free turn that crosses
  gone_then : (k : ℕ) → k < length turns → is_free t a f given turns map holds k ≡ true
      → suc (departure_place t a f given (station_at t (turn_at turns k)) (turn_at turns k).departing) ≤ free_departed t a f given (station_at t (turn_at turns k)) (departs_at t f (turn_at turns k))
  unfolding free_departed departure_place
  gone_then k lt free =
      let s = station_at t (turn_at turns k) in
      let m = (turn_at turns k).departing in
      let parts = sum_below-add (λ q. bit (departs_before t a f given s m q)) (λ q. bit (m == q)) (legs_in t) in
      let one = sum_below-one m 1 (legs_in t) (map.each k lt).departing in
      let less = sum_below-le (λ q. bit (departs_before t a f given s m q) + bit (m == q))
      (λ q. bit (is_free_departure t a f given s q && nat_le (departure t (leg_on q f)) (departs_at t f (turn_at turns k)))) (legs_in t)
      (record {
        each = λ q below. last_before (is_free_departure t a f given s q) (departure t (leg_on q f)) q (departs_at t f (turn_at turns k)) m (λ same.
            (subst (λ l. is_free_departure t a f given s l ≡ true) same (departs_free k lt free), ap (λ l. departure t (leg_on l f)) (sym same)));
      }) in
      omega (arith, parts, one, less)

  come_then : (k : ℕ) → crosses t f (turn_at turns k) ≡ true
      → free_landed t a f given (station_at t (turn_at turns k)) (departs_at t f (turn_at turns k)) ≤ landing_place t a f given (station_at t (turn_at turns k)) (turn_at turns k).arriving
  unfolding free_landed landing_place
  come_then k crossing = sum_below-le _ (λ q. bit (lands_before t a f given (station_at t (turn_at turns k)) (turn_at turns k).arriving q)) (legs_in t)
      (record {
        each = λ q lt. all_before (is_free_landing t a f given (station_at t (turn_at turns k)) q) (ready_minute t (leg_on q f)) q
            (departs_at t f (turn_at turns k)) (ready_at t f (turn_at turns k)) (turn_at turns k).arriving
            (ltb-true _ _ crossing);
      })

  pub free_zero : (k : ℕ) → is_free t a f given turns map holds k ≡ true → arrivals_of given (turn_at turns k).arriving ≡ 0
  unfolding is_free
  free_zero k free = eqb-true _ _ free

  pub within_landings : (k : ℕ) → k < length turns → is_free t a f given turns map holds k ≡ true
      → landing_place t a f given (station_at t (turn_at turns k)) (turn_at turns k).arriving < free_landings t a f given (station_at t (turn_at turns k))
  unfolding free_landings
  within_landings k lt free =
      let s = station_at t (turn_at turns k) in
      let l = (turn_at turns k).arriving in
      subst (λ n. n < count_below (is_free_landing t a f given s) (legs_in t)) (sym (landing_is t a f given s l (map.each k lt).arriving))
      (place_within (is_free_landing t a f given s) (landing_key t a f given s) (legs_in t) (landings_differ t a f given s) l (map.each k lt).arriving (lands_free k lt free))

  -- a free turn that crosses has a departure of a low place
  pub low_place : AreFirstOut t a f given turns → (k : ℕ) → k < length turns → is_free t a f given turns map holds k ≡ true → crosses t f (turn_at turns k) ≡ true
      → departure_place t a f given (station_at t (turn_at turns k)) (turn_at turns k).departing < free_need t a f given (station_at t (turn_at turns k))
  low_place first k lt free crossing =
      let s = station_at t (turn_at turns k) in
      let at = (first.each k lt (free_zero k free)).place in
      let within : landing_place t a f given s (turn_at turns k).arriving < free_landings t a f given s = within_landings k lt free in
      let needed = need_crosses t a f given turns map holds s in
      let few = few_cross s in
      elim (mod_cases (landing_place t a f given s (turn_at turns k).arriving + free_need t a f given s) (free_landings t a f given s) (both_below within (le_trans needed few))) [
        | inl same ↦ absurd (never _ _ _ _ _ (at ∙ same.0) (gone_then k lt free) (come_then k crossing) (excess_needed s (departs_at t f (turn_at turns k)) (departs_within t a f turns map k lt)))
        | inr next ↦ omega (arith, at, next.0, next.1, within)
      ]
    where
      both_below : {p f n : ℕ} → p < n → f ≤ n → p + f < n + n
      both_below h g = omega arith

      never : (place landing need gone come : ℕ) → place ≡ landing + need → suc place ≤ gone → come ≤ landing → gone ≤ come + need → ⊥
      never place landing need gone come e p q r = omega arith

  low_turn : AreFirstOut t a f given turns → (s k : ℕ) → k < length turns → bit (there t a f given turns map holds s k && crosses t f (turn_at turns k))
      ≤ bit ((((leg_of t (turn_at turns k).departing).from == s) && (departures_of given (turn_at turns k).departing == 0))
      && nat_lt (departure_place t a f given s (turn_at turns k).departing) (free_need t a f given s))
  unfolding there
  low_turn first s k lt =
      subst (λ b. bit (there t a f given turns map holds s k && crosses t f (turn_at turns k))
      ≤ bit (b && nat_lt (departure_place t a f given s (turn_at turns k).departing) (free_need t a f given s)))
      (there_is t a f given turns map holds s k lt)
      (and_le (there t a f given turns map holds s k) (crosses t f (turn_at turns k)) _ (λ e crossing.
      let parts = and_parts _ _ e in
      let here : station_at t (turn_at turns k) ≡ s = eqb-true _ _ parts.0 in
      subst (λ at. nat_lt (departure_place t a f given at (turn_at turns k).departing) (free_need t a f given at) ≡ true) here (lt-ltb _ _ (low_place first k lt parts.1 crossing))))

  few_low : (s : ℕ) → count_below (λ l. is_free_departure t a f given s l && nat_lt (departure_place t a f given s l) (free_need t a f given s)) (legs_in t) ≤ free_need t a f given s
  few_low s =
      let same = sum_below-agree (λ l. bit (is_free_departure t a f given s l && nat_lt (departure_place t a f given s l) (free_need t a f given s)))
      (λ l. bit (is_free_departure t a f given s l
      && nat_lt (keyed_below (is_free_departure t a f given s) (departure_key t a f given s) (legs_in t) (departure_key t a f given s l)) (free_need t a f given s))) (legs_in t)
      (record { each = λ l below. ap (λ n. bit (is_free_departure t a f given s l && nat_lt n (free_need t a f given s))) (departure_is t a f given s l below) }) in
      omega (arith, same, few_places (is_free_departure t a f given s) (departure_key t a f given s) (legs_in t) (departures_differ t a f given s) (free_need t a f given s))

  -- so no more free turns cross than are needed
  pub no_more_cross : AreFirstOut t a f given turns → (s : ℕ) → crossings s ≤ free_need t a f given s
  unfolding free_crossings
  no_more_cross first s =
      let low = λ (l : ℕ). nat_lt (departure_place t a f given s l) (free_need t a f given s) in
      let h = λ (l : ℕ). bit ((((leg_of t l).from == s) && (departures_of given l == 0)) && low l) in
      let less = sum_below-le (λ k. bit (there t a f given turns map holds s k && crosses t f (turn_at turns k))) (λ k. h (turn_at turns k).departing) (length turns)
      (record { each = λ k lt. low_turn first s k lt }) in
      let over = over_departures t a f turns map h in
      let same = sum_below-agree (λ l. weights_of a (leg_on l f) * h l) (λ l. bit (is_free_departure t a f given s l && low l)) (legs_in t)
      (record { each = λ l below. landed_part (choice_at a l == f) ((leg_of t l).from == s) (low l) (departures_of given l == 0) }) in
      omega (arith, less, over, same, few_low s)

pub first_out_fits : FirstOutFits
first_out_fits t a f given turns held map holds first =
    let fewer : (s : ℕ) → s < stations_in t → surplus_at t a f turns s ≡ 0 = λ s below.
    let crossing = crossings_are t a f given turns map holds s in
    let crossing' = crossings_are t a f given held.turns held.fitting.map held.holds s in
    let less = no_more_cross t a f given turns map holds first s in
    let more = need_crosses t a f given held.turns held.fitting.map held.holds s in
    let none = no_surplus t a f held.turns s held.fitting below in
    omega (arith, crossing, crossing', less, more, none, crossings_suffice t a f turns map s, crossings_suffice t a f held.turns held.fitting.map s) in
    let zeros = sum_below-agree (surplus_at t a f turns) (λ s. 0) (stations_in t) (record { each = fewer }) in
    record { map = map; fits = omega (arith, periods_beyond_use t a f turns map, zeros, sum_below-zero (stations_in t)) }
