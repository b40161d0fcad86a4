-- Parts that never touch are apart for every map: where a turn of another map waits, turns of the first wait too, and
-- they lead from its leg that arrives to its leg that departs.
use Rattle.std.proofs.Common.{◌≡◌, ℕ, zero, suc, ◌+◌, ◌%◌, ◌<◌, ◌≤◌, inl, inr, Bool, true, false, ◌==◌, ◌&&◌, nat_lt, List, length, slice_index, refl, sym, ◌∙◌, ap, subst, arith}
use Rattle.std.proofs.Math.Nat.{mod-eq_of_lt}
use Rattle.std.proofs.lemmas.Bool.{and_from, and_parts, cases_Bool, eq-eqb, eqb-true, lt-ltb}
use Rattle.sums.proofs.Places.{get_or-list_below, length-list_below}
use Rattle.sums.proofs.Counts.{count_below-some}
use Rattle.sums.proofs.Naturals.{plus_0}
use Rattle.sums.proofs.NumberTests.{some_tested}
use Rattle.fleet_model.specs.declared.parts.Connection.{Connection}
use Rattle.fleet_model.specs.declared.tables.Tables.{Tables}
use Rattle.fleet_model.specs.Counts.{choice_at}
use Rattle.fleet_model.specs.Schedule.{leg_of, leg_on, legs_in, no_leg, period_of, stations_in}
use Rattle.fleet_model.specs.Times.{departure, ready_minute}
use Rattle.fleet_model.proofs.PeriodMinutes.{in_period}
use Rattle.lines_of_flying.specs.ground_turns.Laws.{ApartForAll, TourIsWhole}
use Rattle.lines_of_flying.specs.ground_turns.Maps.{Holds, IsFitting, arrivals_of, departures_of, no_turn, turn_at, turn_after}
use Rattle.lines_of_flying.specs.ground_turns.Parts.{KeepsPart, NeverTouches, TouchesFreely}
use Rattle.lines_of_flying.specs.ground_turns.Turns.{departs_at, ready_at, station_at, touches, wait_of, waits_at}
use Rattle.lines_of_flying.proofs.ground_turns.Fits.{no_surplus}
use Rattle.lines_of_flying.proofs.ground_turns.FreeTurns.{by_arriving, crossings_are, free_both, free_turns_law, free_waiting, is_free, there}
use Rattle.lines_of_flying.proofs.ground_turns.Rounds.{bit}
use Rattle.lines_of_flying.proofs.ground_turns.Totals.{some_counted}
use Rattle.lines_of_flying.proofs.ground_turns.WalkRound.{next_step, touches_last, touches_next, touches_ready, waits_touch, walk_end, walked}
use Rattle.lines_of_flying.proofs.ground_turns.Waits.{crossings_suffice, departs_within, ready_within}

module _ (t : Tables) (a : List ℕ) (f : ℕ) (given turns other : List Connection) (fitting : IsFitting t a f turns)
    (holds : Holds turns given) (fitting' : IsFitting t a f other) (holds' : Holds other given) where
  -- as many free turns wait in one map as in the other
  same_waiting : (s m : ℕ) → s < stations_in t → m < period_of t → free_waiting t a f given turns fitting.map holds s m ≡ free_waiting t a f given other fitting'.map holds' s m
  same_waiting s m below moment =
      let first = free_turns_law t a f given turns fitting.map holds s m moment in
      let second = free_turns_law t a f given other fitting'.map holds' s m moment in
      let crossing = crossings_are t a f given turns fitting.map holds s in
      let crossing' = crossings_are t a f given other fitting'.map holds' s in
      let none = no_surplus t a f turns s fitting below in
      let none' = no_surplus t a f other s fitting' below in
      omega (arith, first, second, crossing, crossing', none, none', crossings_suffice t a f turns fitting.map s, crossings_suffice t a f other fitting'.map s)

  -- where a free turn of the other map waits, one of the first waits
  one_waits : (k m : ℕ) → k < length other → is_free t a f given other fitting'.map holds' k ≡ true → m < period_of t → waits_at t f (turn_at other k) m ≡ true
      → (q : ℕ) × (q < length turns) × (there t a f given turns fitting.map holds (station_at t (turn_at other k)) q ≡ true) × (waits_at t f (turn_at turns q) m ≡ true)
  unfolding there free_waiting
  one_waits k m lt free moment waits =
      let s = station_at t (turn_at other k) in
      let known : s < stations_in t = (t.in_range.legs_fit.each (turn_at other k).arriving no_leg (fitting'.map.each k lt).arriving).to in
      let here : there t a f given other fitting'.map holds' s k ≡ true = and_from (s == s) _ (eq-eqb s s refl) free in
      let some = count_below-some (λ j. there t a f given other fitting'.map holds' s j && waits_at t f (turn_at other j) m) (length other) k lt (and_from _ _ here waits) in
      let found = some_counted (λ j. there t a f given turns fitting.map holds s j && waits_at t f (turn_at turns j) m) (length turns) (omega (arith, same_waiting s m known moment, some)) in
      let parts = and_parts _ _ found.2 in
      (found.0, found.1, parts.0, parts.1)

  -- each leg of the fleet arrives in a turn of the first map, and departs in one
  arrives_in : (l : ℕ) → l < legs_in t → choice_at a l ≡ f → (q : ℕ) × (q < length turns) × ((turn_at turns q).arriving ≡ l)
  arrives_in l below flies =
      let one : bit (choice_at a l == f) ≡ 1 = ap bit (eq-eqb _ _ flies) in
      let found = some_counted (λ q. (turn_at turns q).arriving == l) (length turns) (omega (arith, fitting.map.arrives l below, one)) in
      (found.0, found.1, eqb-true _ _ found.2)

  departs_in : (l : ℕ) → l < legs_in t → choice_at a l ≡ f → (q : ℕ) × (q < length turns) × ((turn_at turns q).departing ≡ l)
  departs_in l below flies =
      let one : bit (choice_at a l == f) ≡ 1 = ap bit (eq-eqb _ _ flies) in
      let found = some_counted (λ q. (turn_at turns q).departing == l) (length turns) (omega (arith, fitting.map.departs l below, one)) in
      (found.0, found.1, eqb-true _ _ found.2)

  -- the minute so many minutes after the turn of the other map is ready
  minute_at : ℕ → ℕ → ℕ
  minute_at k j = (ready_at t f (turn_at other k) + j) % period_of t

  minute_within : (k j : ℕ) → minute_at k j < period_of t
  unfolding minute_at
  minute_within k j = in_period t _

  wait_within : (turn : Connection) → wait_of t f turn < period_of t
  wait_within turn = in_period t _

  -- a free turn of the first map that touches a minute at a station
  abbrev Touching : ℕ → ℕ → ℕ → Type 0
  Touching s m q = TouchesFreely t f given turns s m q

  -- what it says that a turn is there
  opened : (k q : ℕ) → there t a f given turns fitting.map holds (station_at t (turn_at other k)) q ≡ true
      → ((station_at t (turn_at turns q) == station_at t (turn_at other k)) && (arrivals_of given (turn_at turns q).arriving == 0)) ≡ true
  unfolding there is_free
  opened k q e = e

  module _ (inside : ℕ → Bool) (keeps : KeepsPart turns inside) (apart : NeverTouches t f given turns inside) where
    -- the walk along the wait of a free turn of the other map stays on its side
    reaches : (k j : ℕ) → k < length other → is_free t a f given other fitting'.map holds' k ≡ true → j ≤ wait_of t f (turn_at other k)
        → (q : ℕ) × (Touching (station_at t (turn_at other k)) (minute_at k j) q) × (inside (turn_at turns q).arriving ≡ inside (turn_at other k).arriving)
    unfolding minute_at is_free
    reaches k zero lt free steps =
        let l = (turn_at other k).arriving in
        let found = arrives_in l (fitting'.map.each k lt).arriving (fitting'.map.each k lt).comes_on in
        let ready = ready_within t a f turns fitting.map found.0 in
        let here : ready_at t f (turn_at turns found.0) ≡ minute_at k 0 = ap (λ q. ready_minute t (leg_on q f)) found.2 ∙ at_first _ (ready_within t a f other fitting'.map k) in (
          found.0,
          record {
            within = found.1;
            free = ap (arrivals_of given) found.2 ∙ eqb-true _ _ free;
            there = ap (λ q. (leg_of t q).to) found.2;
            touching = subst (λ m. touches t f (turn_at turns found.0) m ≡ true) here
                (touches_ready (period_of t) (ready_at t f (turn_at turns found.0)) (wait_of t f (turn_at turns found.0)) ready);
          },
          ap inside found.2,
        )
      where
        at_first : (r : ℕ) → r < period_of t → r ≡ (r + 0) % period_of t
        at_first r ready = sym (ap (λ n. n % period_of t) (plus_0 r) ∙ mod-eq_of_lt ready)
    reaches k (suc j) lt free steps =
        let before = reaches k j lt free (omega arith) in
        let few = wait_within (turn_at other k) in
        let ready = ready_within t a f other fitting'.map k in
        let waits : waits_at t f (turn_at other k) (minute_at k j) ≡ true =
        ap (λ n. nat_lt n (wait_of t f (turn_at other k))) (walked (period_of t) (ready_at t f (turn_at other k)) j ready (omega (arith, few, steps)))
        ∙ lt-ltb j (wait_of t f (turn_at other k)) steps in
        let found = one_waits k (minute_at k j) lt free (minute_within k j) waits in
        let parts = and_parts _ _ (opened k found.0 found.2) in
        let here : station_at t (turn_at turns found.0) ≡ station_at t (turn_at other k) = eqb-true _ _ parts.0 in
        let now : Touching (station_at t (turn_at other k)) (minute_at k j) found.0 =
        record { within = found.1; free = eqb-true _ _ parts.1; there = here; touching = waits_touch _ _ found.3 } in (
          found.0,
          record {
            within = found.1;
            free = eqb-true _ _ parts.1;
            there = here;
            touching = touches_next (period_of t) (ready_at t f (turn_at turns found.0)) (minute_at k j) (minute_at k (suc j)) (wait_of t f (turn_at turns found.0))
                (ready_within t a f turns fitting.map found.0) (minute_within k j) (wait_within (turn_at turns found.0))
                (next_step (period_of t) (ready_at t f (turn_at other k)) j ready (omega (arith, few, steps))) found.3;
          },
          sym (apart.each (station_at t (turn_at other k)) (minute_at k j) before.0 found.0 (minute_within k j) before.1 now) ∙ before.2,
        )

    free_side : (k : ℕ) → k < length other → is_free t a f given other fitting'.map holds' k ≡ true → inside (turn_at other k).arriving ≡ inside (turn_at other k).departing
    unfolding minute_at is_free
    free_side k lt free =
        let s = station_at t (turn_at other k) in
        let d = departs_at t f (turn_at other k) in
        let walk = reaches k (wait_of t f (turn_at other k)) lt free (omega arith) in
        let end : minute_at k (wait_of t f (turn_at other k)) ≡ d =
        walk_end (period_of t) (ready_at t f (turn_at other k)) d (ready_within t a f other fitting'.map k) (departs_within t a f other fitting'.map k lt) in
        let first : Touching s d walk.0 = subst (λ m. Touching s m walk.0) end walk.1 in
        let found = departs_in (turn_at other k).departing (fitting'.map.each k lt).departing (fitting'.map.each k lt).leaves_on in
        let second : Touching s d found.0 = record {
          within = found.1;
          free = eqb-true _ _ (free_both t a f given turns fitting.map holds found.0 found.1 ∙ ap (λ q. departures_of given q == 0) found.2
              ∙ sym (free_both t a f given other fitting'.map holds' k lt) ∙ free);
          there = (fitting.map.each found.0 found.1).meets ∙ ap (λ q. (leg_of t q).from) found.2 ∙ sym (fitting'.map.each k lt).meets;
          touching = subst (λ m. touches t f (turn_at turns found.0) m ≡ true) (ap (λ q. departure t (leg_on q f)) found.2) (touches_last (wait_of t f (turn_at turns found.0)));
        } in
        sym walk.2 ∙ apart.each s d walk.0 found.0 (departs_within t a f other fitting'.map k lt) first second ∙ keeps.each found.0 found.1 ∙ ap inside found.2

    given_side : (k : ℕ) → k < length other → is_free t a f given other fitting'.map holds' k ≡ false → inside (turn_at other k).arriving ≡ inside (turn_at other k).departing
    unfolding is_free
    given_side k lt none =
        let found = some_counted (λ g. (turn_at given g).arriving == (turn_at other k).arriving) (length given) (some_tested _ none) in
        let same = by_arriving t a f given other fitting'.map holds' found.0 k found.1 lt (eqb-true _ _ found.2) in
        let held = holds.each found.0 found.1 in
        let turn : turn_at turns held.place ≡ turn_at other k = held.there ∙ sym same in
        subst (λ turn. inside turn.arriving ≡ inside turn.departing) turn (keeps.each held.place held.within)

    same_side : (k : ℕ) → k < length other → inside (turn_at other k).arriving ≡ inside (turn_at other k).departing
    same_side k lt = elim (cases_Bool (is_free t a f given other fitting'.map holds' k)) [ inl free ↦ free_side k lt free | inr none ↦ given_side k lt none ]

pub apart_for_all : ApartForAll
apart_for_all t a f given turns other inside fitting holds keeps apart fitting' holds' = record { each = same_side t a f given turns other fitting holds fitting' holds' inside keeps apart }

pub tour_is_whole : TourIsWhole
tour_is_whole t a f legs inside tour keeps j k first second = from_first j first ∙ sym (from_first k second)
  where
    step : (i : ℕ) → suc i < length legs → inside (slice_index legs (suc i)) ≡ inside (slice_index legs i)
    step i lt =
        let at = get_or-list_below (turn_after legs) (length legs) i no_turn (omega arith) in
        let kept = keeps.each i (subst (λ n. i < n) (sym (length-list_below (turn_after legs) (length legs))) (omega arith)) in
        ap (λ n. inside (slice_index legs n)) (sym (mod-eq_of_lt lt)) ∙ ap (λ turn. inside turn.departing) (sym at) ∙ sym kept ∙ ap (λ turn. inside turn.arriving) at

    from_first : (i : ℕ) → i < length legs → inside (slice_index legs i) ≡ inside (slice_index legs 0)
    from_first zero lt = refl
    from_first (suc i) lt = step i lt ∙ from_first i (omega arith)
