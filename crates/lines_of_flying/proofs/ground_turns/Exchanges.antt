-- Departures exchanged where two turns touch one minute: a fitting map stays fitting.
use Rattle.std.proofs.Common.{◌≡◌, ◌≢◌, ℕ, ◌+◌, ◌<◌, ◌≤◌, inl, inr, ◌==◌, List, length, refl, sym, ◌∙◌, ap, subst, arith}
use Rattle.std.proofs.lemmas.Bool.{cases_eq, eq-eqb}
use Rattle.sums.specs.Below.{sum_below, count_below}
use Rattle.sums.proofs.Counts.{count_below-some}
use Rattle.sums.proofs.Sums.{sum_below-agree}
use Rattle.fleet_model.specs.declared.parts.Connection.{Connection}
use Rattle.fleet_model.specs.declared.tables.Tables.{Tables}
use Rattle.fleet_model.specs.Schedule.{period_of}
use Rattle.lines_of_flying.specs.ground_turns.Laws.{ExchangedFits, ExchangedHolds, Touch}
use Rattle.lines_of_flying.specs.ground_turns.Maps.{AreExchanged, IsSuccessorMap, arrivals_of, crossings_of, departures_of, exchanged, turn_at}
use Rattle.lines_of_flying.specs.ground_turns.Turns.{IsTurn, crosses, departs_at, ready_at, station_at}
use Rattle.lines_of_flying.proofs.ground_turns.Fits.{periods_beyond_use}
use Rattle.lines_of_flying.proofs.ground_turns.Rounds.{bit, exchange_law}
use Rattle.lines_of_flying.proofs.ground_turns.Totals.{two_changed}
use Rattle.lines_of_flying.proofs.ground_turns.Waits.{departs_within, ready_within}

-- two turns at one station, each with the other's departure
crossed : (t : Tables) (a : List ℕ) (f : ℕ) (turn other : Connection) → IsTurn t a f turn → IsTurn t a f other → station_at t turn ≡ station_at t other
    → IsTurn t a f (exchanged turn other)
crossed t a f turn other h g same = record {
  arriving = h.arriving;
  departing = g.departing;
  comes_on = h.comes_on;
  leaves_on = g.leaves_on;
  meets = same ∙ g.meets;
}

module _ (t : Tables) (a : List ℕ) (f : ℕ) (old new : List Connection) (i j m : ℕ) (map : IsSuccessorMap t a f old) (meet : Touch t f old i j m) (h : AreExchanged old new i j) where
  -- each turn is one of the exchanged, or as it was
  by_turn : (P : ℕ → Connection → Type 0) → P i (exchanged (turn_at old i) (turn_at old j)) → P j (exchanged (turn_at old j) (turn_at old i)) → ((k : ℕ) → k < length old → P k (turn_at old k))
      → (k : ℕ) → k < length old → P k (turn_at new k)
  by_turn P first second other k lt = elim (cases_eq k i) [
    | inl here ↦ subst (λ q. P q (turn_at new q)) (sym here) (subst (P i) (sym h.first) first)
    | inr not_first ↦ elim (cases_eq k j) [
      | inl here ↦ subst (λ q. P q (turn_at new q)) (sym here) (subst (P j) (sym h.second) second)
      | inr not_second ↦ subst (P k) (sym (h.others k lt not_first not_second)) (other k lt)
    ]
  ]

  same_arriving : (k : ℕ) → k < length old → (turn_at new k).arriving ≡ (turn_at old k).arriving
  same_arriving = by_turn (λ k turn. turn.arriving ≡ (turn_at old k).arriving) refl refl (λ k lt. refl)

  arrivals : (l : ℕ) → arrivals_of new l ≡ arrivals_of old l
  arrivals l =
      ap (count_below (λ k. (turn_at new k).arriving == l)) h.same_length
      ∙ sum_below-agree (λ k. bit ((turn_at new k).arriving == l)) (λ k. bit ((turn_at old k).arriving == l)) (length old)
      (record { each = λ k lt. ap (λ q. bit (q == l)) (same_arriving k lt) })

  -- a sum over the turns changes by the two
  changed : (g : Connection → ℕ) → sum_below (λ k. g (turn_at new k)) (length new) + (g (turn_at old i) + g (turn_at old j))
      ≡ sum_below (λ k. g (turn_at old k)) (length old) + (g (exchanged (turn_at old i) (turn_at old j)) + g (exchanged (turn_at old j) (turn_at old i)))
  changed g =
      let law = two_changed (λ k. g (turn_at new k)) (λ k. g (turn_at old k)) (length old) i j meet.first meet.second meet.differ (λ k lt p q. ap g (h.others k lt p q)) in
      let size = ap (sum_below (λ k. g (turn_at new k))) h.same_length in
      omega (arith, law, size, ap g h.first, ap g h.second)

  departures : (l : ℕ) → departures_of new l ≡ departures_of old l
  departures l = let law = changed (λ turn. bit (turn.departing == l)) in omega (arith, law)

  new_map : IsSuccessorMap t a f new
  new_map = record {
    plain = map.plain;
    each = λ k lt. by_turn (λ q turn. IsTurn t a f turn)
        (crossed t a f (turn_at old i) (turn_at old j) (map.each i meet.first) (map.each j meet.second) meet.together)
        (crossed t a f (turn_at old j) (turn_at old i) (map.each j meet.second) (map.each i meet.first) (sym meet.together))
        map.each k (subst (λ n. k < n) h.same_length lt);
    arrives = λ l below. arrivals l ∙ map.arrives l below;
    departs = λ l below. departures l ∙ map.departs l below;
  }

  no_more_cross : crossings_of t f new ≤ crossings_of t f old
  no_more_cross =
      let law = changed (λ turn. bit (crosses t f turn)) in
      let less = exchange_law (period_of t) (ready_at t f (turn_at old i)) (departs_at t f (turn_at old i)) (ready_at t f (turn_at old j)) (departs_at t f (turn_at old j)) m
      (ready_within t a f old map i) (departs_within t a f old map i meet.first) (ready_within t a f old map j) (departs_within t a f old map j meet.second) meet.minute
      meet.first_touches meet.second_touches in
      omega (arith, law, less)

pub exchanged_fits : ExchangedFits
exchanged_fits t a f old new i j m fitting meet h =
    let map = new_map t a f old new i j m fitting.map meet h in
    let no_less = periods_beyond_use t a f new map in
    let no_more = no_more_cross t a f old new i j m fitting.map meet h in
    record { map = map; fits = omega (arith, no_less, no_more, fitting.fits) }

pub exchanged_holds : ExchangedHolds
exchanged_holds given old new i j held h free free' = record {
  each = λ g lt.
      let turn = held.each g lt in
      record {
        place = turn.place;
        within = subst (λ n. turn.place < n) (sym h.same_length) turn.within;
        there = h.others turn.place turn.within (is_other g turn.place lt turn.there i free) (is_other g turn.place lt turn.there j free') ∙ turn.there;
      };
}
  where
    -- a given pair's turn is none of those that are free
    is_other : (g q : ℕ) → g < length given → turn_at old q ≡ turn_at given g → (k : ℕ) → arrivals_of given (turn_at old k).arriving ≡ 0 → q ≢ k
    is_other g q lt there k none same =
        let here : (turn_at given g).arriving ≡ (turn_at old k).arriving = ap (λ turn. turn.arriving) (sym there) ∙ ap (λ n. (turn_at old n).arriving) same in
        let some = count_below-some (λ n. (turn_at given n).arriving == (turn_at old k).arriving) (length given) g lt (eq-eqb _ _ here) in
        absurd (omega (arith, some, none))
