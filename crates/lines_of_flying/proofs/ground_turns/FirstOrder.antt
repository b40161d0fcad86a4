-- Where aircraft depart first in, first out, one that becomes ready after another one departs no sooner.
use Rattle.std.proofs.Common.{◌≡◌, ℕ, zero, suc, ◌+◌, ◌-◌, ◌%◌, ◌<◌, ◌≤◌, inl, inr, Bool, true, ◌==◌, ◌&&◌, nat_le, List, length, sym, ap, subst, arith}
use Rattle.std.proofs.lemmas.Bool.{cases_eq, cases_lt, cases_order, eq-eqb, lt-ltb}
use Rattle.std.proofs.lemmas.Bool.Decides.{nat_tests}
use Rattle.sums.specs.Below.{max_below, sum_below}
use Rattle.sums.proofs.Maxima.{max_below-suc, max_below-zero}
use Rattle.sums.proofs.Sums.{sum_below-add, sum_below-le, sum_below-one}
use Rattle.fleet_model.specs.declared.parts.Connection.{Connection}
use Rattle.fleet_model.specs.declared.tables.Tables.{Tables}
use Rattle.fleet_model.specs.Schedule.{leg_on, legs_in, period_of}
use Rattle.fleet_model.specs.Times.{departure, ready_minute}
use Rattle.lines_of_flying.specs.ground_turns.FirstOut.{AreFirstOut, departure_place, free_departed, free_excess, free_landed, free_landings, free_need, is_before, is_free_departure, is_free_landing, landing_place}
use Rattle.lines_of_flying.specs.ground_turns.Laws.{FreeTogether, ReadyFirstDepartsFirst}
use Rattle.lines_of_flying.specs.ground_turns.Maps.{Holds, IsSuccessorMap, turn_at}
use Rattle.lines_of_flying.specs.ground_turns.Turns.{departs_at, ready_at, station_at}
use Rattle.sums.proofs.Rounds.{mod_cases}
use Rattle.lines_of_flying.proofs.ground_turns.FirstOuts.{all_before, departs_free, few_cross, free_zero, lands_free, low_place, within_landings}
use Rattle.lines_of_flying.proofs.ground_turns.FreeTurns.{all_departed, all_there, is_free, need_crosses, there}
use Rattle.lines_of_flying.proofs.ground_turns.Rounds.{bit, part_at_most, until_later, until_next}
use Rattle.lines_of_flying.proofs.ground_turns.Waits.{departs_within, ready_within}

-- ---- the greatest of some numbers is one of them

attained : (g : ℕ → ℕ) (n : ℕ) → 0 < max_below g n → (m : ℕ) × (g m ≡ max_below g n)
attained g zero some = absurd (omega (arith, some, max_below-zero g))
attained g (suc n) some = elim (cases_lt (g n) (max_below g n)) [
  | inl less ↦ let found = attained g n (omega arith) in (found.0, omega (arith, found.1, max_below-suc g n, less))
  | inr last ↦ (n, omega (arith, max_below-suc g n, last))
]

-- ---- turns by their places

-- landings and departures by the end of each minute, as many of both, and how many aircraft are there before
record IsBalance (landed departed : ℕ → ℕ) (n need : ℕ) : Type 0 where
  few : (m : ℕ) → departed m ≤ n
  needed : need ≤ n
  top : 0 < need → (m : ℕ) × (departed m ≡ landed m + need)

-- a turn whose landing and departure have these places and minutes
record IsPlaced (landed departed : ℕ → ℕ) (n need p q r d : ℕ) : Type 0 where
  within : p < n
  place : q ≡ (p + need) % n
  has_landed : (m : ℕ) → r ≤ m → suc p ≤ landed m
  to_land : (m : ℕ) → m < r → landed m ≤ p
  has_gone : (m : ℕ) → d ≤ m → suc q ≤ departed m
  to_go : (m : ℕ) → m < d → departed m ≤ q
  low : d < r → q < need

module _ (landed departed : ℕ → ℕ) (n need : ℕ) (balance : IsBalance landed departed n need) where
  -- a turn that crosses goes round, and no other one
  goes_round : (p q r d : ℕ) → IsPlaced landed departed n need p q r d → d < r → (q + n ≡ p + need)
  goes_round p q r d placed crossing = elim (mod_cases (p + need) n (omega (arith, placed.within, balance.needed))) [
    | inl same ↦ absurd (omega (arith, placed.place, same.0, placed.low crossing))
    | inr next ↦ omega (arith, placed.place, next.0, next.1)
  ]

  goes_on : (p q r d : ℕ) → IsPlaced landed departed n need p q r d → r ≤ d → (q ≡ p + need)
  goes_on p q r d placed later = elim (mod_cases (p + need) n (omega (arith, placed.within, balance.needed))) [
    | inl same ↦ omega (arith, placed.place, same.0)
    | inr next ↦ absurd (never (balance.top (omega (arith, next.1, placed.within))) next.0 next.1)
  ]
    where
      never : (m : ℕ) × (departed m ≡ landed m + need) → (p + need) % n ≡ p + need - n → n ≤ p + need → ⊥
      never top round more = elim (cases_lt top.0 r) [
        | inl before ↦ omega (arith, top.1, round, more, placed.place, placed.within, placed.to_go top.0 (omega (arith, before, later)))
        | inr after ↦ omega (arith, top.1, more, balance.few top.0, placed.has_landed top.0 after)
      ]

  -- a departure of a lower place is no later
  in_order : (p q r d p' q' r' d' : ℕ) → IsPlaced landed departed n need p q r d → IsPlaced landed departed n need p' q' r' d' → q < q' → d ≤ d'
  in_order p q r d p' q' r' d' first second less = elim (cases_lt d' d) [
    | inl sooner ↦ absurd (omega (arith, less, first.to_go d' sooner, second.has_gone d' (omega arith)))
    | inr later ↦ later
  ]

  few_places : (p q r d : ℕ) → IsPlaced landed departed n need p q r d → q < n
  few_places p q r d placed = omega (arith, placed.has_gone d (omega arith), balance.few d)

  -- a landing of an earlier minute has a lower place
  lands_lower : (p q r d p' q' r' d' : ℕ) → IsPlaced landed departed n need p q r d → IsPlaced landed departed n need p' q' r' d' → r < r' → p < p'
  lands_lower p q r d p' q' r' d' first second less = omega (arith, first.has_landed r (omega arith), second.to_land r less)

  -- who lands first departs no later, counted from there
  module _ (w p q r d p' q' r' d' : ℕ) (first : IsPlaced landed departed n need p q r d) (second : IsPlaced landed departed n need p' q' r' d')
      (ready : r < w) (departs : d < w) (ready' : r' < w) (departs' : d' < w) where
    -- both in one period
    lower : p < p' → r ≤ r' → (d + w - r) % w ≤ (r' + w - r) % w + (d' + w - r') % w
    lower less order = elim (cases_lt d r) [
      | inl next ↦ elim (cases_lt d' r') [
        | inl next' ↦ let sooner = in_order p q r d p' q' r' d' first second (omega (arith, less, goes_round p q r d first next, goes_round p' q' r' d' second next')) in
            omega (arith, sooner, until_next w r d next ready, until_next w r' d' next' ready', until_later w r r' order ready')
        | inr on' ↦ absurd (omega (arith, less, goes_round p q r d first next, goes_on p' q' r' d' second on', few_places p' q' r' d' second))
      ]
      | inr on ↦ elim (cases_lt d' r') [
        | inl next' ↦ omega (arith, until_later w r d on departs, until_next w r' d' next' ready', until_later w r r' order ready')
        | inr on' ↦ let sooner = in_order p q r d p' q' r' d' first second (omega (arith, less, goes_on p q r d first on, goes_on p' q' r' d' second on')) in
            omega (arith, sooner, until_later w r d on departs, until_later w r' d' on' departs', until_later w r r' order ready')
      ]
    ]

    -- the second in the next period
    higher : r' < r → (d + w - r) % w ≤ (r' + w - r) % w + (d' + w - r') % w
    higher order = elim (cases_lt d r) [
      | inl next ↦ elim (cases_lt d' r') [
        | inl next' ↦ omega (arith, until_next w r d next ready, until_next w r' d' next' ready', until_next w r r' order ready)
        | inr on' ↦ let sooner = in_order p q r d p' q' r' d' first second (omega (arith, first.low next, goes_on p' q' r' d' second on')) in
            omega (arith, sooner, until_next w r d next ready, until_later w r' d' on' departs', until_next w r r' order ready)
      ]
      | inr on ↦ elim (cases_lt d' r') [
        | inl next' ↦ omega (arith, until_later w r d on departs, until_next w r' d' next' ready', until_next w r r' order ready)
        | inr on' ↦ omega (arith, until_later w r d on departs, until_later w r' d' on' departs', until_next w r r' order ready)
      ]
    ]

    either : (r ≡ r' → p < p') → (d + w - r) % w ≤ (r' + w - r) % w + (d' + w - r') % w
    either tie = elim (cases_order r r') [
      | inl same ↦ lower (tie same) (omega arith)
      | inr other ↦ elim other [
        | inl before ↦ lower (lands_lower p q r d p' q' r' d' first second before) (omega arith)
        | inr after ↦ higher after
      ]
    ]

-- ---- the turns of a map

-- in one minute, the lower leg comes first
lower_leg : (p : Bool) (x q r l l' : ℕ) → l < l' → (l ≡ q → (p ≡ true) × (x ≡ r)) → bit (p && is_before x q r l) + bit (l == q) ≤ bit (p && is_before x q r l')
lower_leg p x q r l l' less h = elim (cases_eq l q) [
  | inl same ↦ let parts = h same in at_leg p x q r l l' same parts.0 parts.1 less
  | inr other ↦ grind (arith, nat_tests)
]
  where
    at_leg : (p : Bool) (x q r l l' : ℕ) → l ≡ q → p ≡ true → x ≡ r → l < l' → bit (p && is_before x q r l) + bit (l == q) ≤ bit (p && is_before x q r l')
    at_leg p x q r l l' same passes equal less = grind (arith, nat_tests)

-- one of a minute, and those before it, come by then
and_it : (p : Bool) (x q d m l : ℕ) → d ≤ m → (l ≡ q → (p ≡ true) × (x ≡ d)) → bit (p && is_before x q d l) + bit (l == q) ≤ bit (p && nat_le x m)
and_it p x q d m l less h = elim (cases_eq l q) [
  | inl same ↦ let parts = h same in at_last p x q d m l same parts.0 parts.1 less
  | inr other ↦ grind (arith, nat_tests)
]
  where
    at_last : (p : Bool) (x q d m l : ℕ) → l ≡ q → p ≡ true → x ≡ d → d ≤ m → bit (p && is_before x q d l) + bit (l == q) ≤ bit (p && nat_le x m)
    at_last p x q d m l same passes equal less = grind (arith, nat_tests)

-- of legs that pass, in the order of minutes and then of legs
module _ (free : ℕ → Bool) (minute : ℕ → ℕ) (legs : ℕ) where
  abbrev before : ℕ → ℕ → ℕ
  before l q = bit (free q && is_before (minute q) q (minute l) l)

  abbrev come : ℕ → ℕ → ℕ
  come m q = bit (free q && nat_le (minute q) m)

  -- one, with those before it
  come_with : (l m : ℕ) → l < legs → free l ≡ true → minute l ≤ m → suc (sum_below (before l) legs) ≤ sum_below (come m) legs
  come_with l m known passes by =
      let parts = sum_below-add (before l) (λ q. bit (l == q)) legs in
      let one = sum_below-one l 1 legs known in
      let less = sum_below-le (λ q. before l q + bit (l == q)) (come m) legs
      (record { each = λ q below. and_it (free q) (minute q) q (minute l) m l by (λ same. (subst (λ k. free k ≡ true) same passes, ap minute (sym same))) }) in
      omega (arith, parts, one, less)

  come_before : (l m : ℕ) → m < minute l → sum_below (come m) legs ≤ sum_below (before l) legs
  come_before l m less = sum_below-le (come m) (before l) legs (record { each = λ q lt. all_before (free q) (minute q) q m (minute l) l less })

  lower_first : (l l' : ℕ) → l < legs → free l ≡ true → minute l ≡ minute l' → l < l' → sum_below (before l) legs < sum_below (before l') legs
  lower_first l l' known passes same less =
      let parts = sum_below-add (before l) (λ q. bit (l == q)) legs in
      let one = sum_below-one l 1 legs known in
      let more = sum_below-le (λ q. before l q + bit (l == q)) (before l') legs
      (record {
        each = λ q below. subst (λ m. before l q + bit (l == q) ≤ bit (free q && is_before (minute q) q m l')) same
            (lower_leg (free q) (minute q) q (minute l) l l' less (λ e. (subst (λ k. free k ≡ true) e passes, ap minute (sym e))));
      }) in
      omega (arith, parts, one, more)

module _ (t : Tables) (a : List ℕ) (f : ℕ) (given turns : List Connection) (map : IsSuccessorMap t a f turns) (holds : Holds turns given) (first_out : AreFirstOut t a f given turns) where
  few_departed : (s m : ℕ) → free_departed t a f given s m ≤ free_landings t a f given s
  few_departed s m =
      let less = sum_below-le (λ k. bit (there t a f given turns map holds s k && nat_le (departs_at t f (turn_at turns k)) m)) (λ k. bit (there t a f given turns map holds s k)) (length turns)
      (record { each = λ k lt. part_at_most (there t a f given turns map holds s k) (nat_le (departs_at t f (turn_at turns k)) m) }) in
      omega (arith, less, all_there t a f given turns map holds s, all_departed t a f given turns map holds s m)

  top_is : (s : ℕ) → 0 < free_need t a f given s → (m : ℕ) × (free_departed t a f given s m ≡ free_landed t a f given s m + free_need t a f given s)
  unfolding free_need
  top_is s some = let found = attained (free_excess t a f given s) (period_of t) some in (found.0, omega (arith, found.1, some))

  balance : (s : ℕ) → IsBalance (free_landed t a f given s) (free_departed t a f given s) (free_landings t a f given s) (free_need t a f given s)
  balance s = record {
    few = few_departed s;
    needed = omega (arith, need_crosses t a f given turns map holds s, few_cross t a f given turns map holds s);
    top = top_is s;
  }

  abbrev IsPlacedAt : ℕ → ℕ → Type 0
  IsPlacedAt k s = IsPlaced (free_landed t a f given s) (free_departed t a f given s) (free_landings t a f given s) (free_need t a f given s)
      (landing_place t a f given s (turn_at turns k).arriving) (departure_place t a f given s (turn_at turns k).departing) (ready_at t f (turn_at turns k)) (departs_at t f (turn_at turns k))

  placed : (k : ℕ) → k < length turns → is_free t a f given turns map holds k ≡ true → IsPlacedAt k (station_at t (turn_at turns k))
  unfolding landing_place free_landed departure_place free_departed
  placed k lt free =
      let s = station_at t (turn_at turns k) in
      let turn = map.each k lt in
      record {
        within = within_landings t a f given turns map holds k lt free;
        place = (first_out.each k lt (free_zero t a f given turns map holds k free)).place;
        has_landed = λ m by. come_with (is_free_landing t a f given s) (λ l. ready_minute t (leg_on l f)) (legs_in t) (turn_at turns k).arriving m turn.arriving (lands_free t a f given turns map holds k lt free) by;
        to_land = λ m less. come_before (is_free_landing t a f given s) (λ l. ready_minute t (leg_on l f)) (legs_in t) (turn_at turns k).arriving m less;
        has_gone = λ m by. come_with (is_free_departure t a f given s) (λ l. departure t (leg_on l f)) (legs_in t) (turn_at turns k).departing m turn.departing (departs_free t a f given turns map holds k lt free) by;
        to_go = λ m less. come_before (is_free_departure t a f given s) (λ l. departure t (leg_on l f)) (legs_in t) (turn_at turns k).departing m less;
        low = λ crossing. low_place t a f given turns map holds first_out k lt free (lt-ltb _ _ crossing);
      }

  in_turn : (j k : ℕ) → FreeTogether t f given turns j k
      → (departs_at t f (turn_at turns j) + period_of t - ready_at t f (turn_at turns j)) % period_of t
      ≤ (ready_at t f (turn_at turns k) + period_of t - ready_at t f (turn_at turns j)) % period_of t
      + (departs_at t f (turn_at turns k) + period_of t - ready_at t f (turn_at turns k)) % period_of t
  unfolding is_free landing_place
  in_turn j k both =
      let s = station_at t (turn_at turns k) in
      let lands = subst (λ at. is_free_landing t a f given at (turn_at turns j).arriving ≡ true) both.together (lands_free t a f given turns map holds j both.first (eq-eqb _ _ both.first_free)) in
      either (free_landed t a f given s) (free_departed t a f given s) (free_landings t a f given s) (free_need t a f given s) (balance s) (period_of t)
      (landing_place t a f given s (turn_at turns j).arriving) (departure_place t a f given s (turn_at turns j).departing) (ready_at t f (turn_at turns j)) (departs_at t f (turn_at turns j))
      (landing_place t a f given s (turn_at turns k).arriving) (departure_place t a f given s (turn_at turns k).departing) (ready_at t f (turn_at turns k)) (departs_at t f (turn_at turns k))
      (subst (IsPlacedAt j) both.together (placed j both.first (eq-eqb _ _ both.first_free))) (placed k both.second (eq-eqb _ _ both.second_free))
      (ready_within t a f turns map j) (departs_within t a f turns map j both.first) (ready_within t a f turns map k) (departs_within t a f turns map k both.second)
      (λ tie. lower_first (is_free_landing t a f given s) (λ l. ready_minute t (leg_on l f)) (legs_in t) (turn_at turns j).arriving (turn_at turns k).arriving (map.each j both.first).arriving lands tie (both.lower tie))

pub ready_first_departs_first : ReadyFirstDepartsFirst
ready_first_departs_first t a f given turns j k map holds first_out both = in_turn t a f given turns map holds first_out j k both
