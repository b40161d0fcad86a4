-- A map fits exactly where its turns are clean: at each station a moment has stand 0.
use Rattle.std.proofs.Common.{◌≡◌, ◌+◌, ◌<◌, ◌==◌, ◌&&◌, ◌∙◌, Bool, List, ℕ, ap, arith, false, inl, inr, length, nat_le, nat_lt, refl, subst, sym, true}
use Rattle.std.proofs.lemmas.Bool.{cases_lt, and_from, and_parts, eqb-true, eq-eqb}
use Rattle.sums.specs.Below.{sum_below}
use Rattle.sums.proofs.Counts.{count_below-some}
use Rattle.sums.proofs.Sums.{sum_below-agree, sum_below-add, sum_below-zero}
use Rattle.sums.proofs.SumBounds.{term_le}
use Rattle.fleet_model.specs.declared.parts.Connection.{Connection}
use Rattle.fleet_model.specs.declared.tables.Tables.{Tables}
use Rattle.fleet_model.specs.Counts.{Weights, arrived, departed, weights_of}
use Rattle.fleet_model.specs.Schedule.{last_of, no_leg, period_of, stations_in}
use Rattle.fleet_model.specs.Use.{excess, need_of, stand_of, used_of}
use Rattle.fleet_model.proofs.PeriodMinutes.{by_last, last_in}
use Rattle.lines_of_flying.specs.ground_turns.Laws.{FitsWhereClean, PeriodsBeyondUse, WaitingIsStand, surplus_at}
use Rattle.lines_of_flying.specs.ground_turns.Maps.{AreClean, IsFitting, IsSuccessorMap, crosses_there, crossings_at, crossings_of, turn_at, waiting_at, waits_there}
use Rattle.lines_of_flying.specs.ground_turns.Turns.{crosses, departs_at, ready_at, station_at, waits_at}
use Rattle.lines_of_flying.proofs.ground_turns.Rounds.{bit, moment_law}
use Rattle.lines_of_flying.proofs.ground_turns.Totals.{over_places, some_counted, some_greatest}
use Rattle.lines_of_flying.proofs.ground_turns.Waits.{all_turns, crossings_suffice, departs_within, ready_within, waiting_law}

module _ (t : Tables) (a : List ℕ) (f : ℕ) (turns : List Connection) (map : IsSuccessorMap t a f turns) where
  all_crossings : sum_below (crossings_at t f turns) (stations_in t) ≡ crossings_of t f turns
  all_crossings =
      over_places (λ k. station_at t (turn_at turns k)) (λ k. crosses t f (turn_at turns k)) (stations_in t) (length turns)
      (λ k lt. (t.in_range.legs_fit.each (turn_at turns k).arriving no_leg (map.each k lt).arriving).to)

  periods_are : sum_below (need_of t (weights_of a) f) (stations_in t) + sum_below (surplus_at t a f turns) (stations_in t) ≡ crossings_of t f turns
  periods_are =
      let same = sum_below-agree (crossings_at t f turns) (λ s. need_of t (weights_of a) f s + surplus_at t a f turns s) (stations_in t)
      (record { each = λ s below. let more = crossings_suffice t a f turns map s in omega arith }) in
      let parts = sum_below-add (need_of t (weights_of a) f) (surplus_at t a f turns) (stations_in t) in
      omega (arith, same, parts, all_crossings)

  -- at the last moment those wait that cross
  all_cross : (s k : ℕ) → k < length turns → bit (waits_there t f turns s (last_of t) k) ≡ bit (crosses_there t f turns s k)
  all_cross s k lt = by_station (station_at t (turn_at turns k) == s) (waits_at t f (turn_at turns k) (last_of t)) (crosses t f (turn_at turns k))
      (at_last (ready_at t f (turn_at turns k)) (departs_at t f (turn_at turns k)) _ (ready_within t a f turns map k) (departs_within t a f turns map k lt)
      (moment_law (period_of t) (ready_at t f (turn_at turns k)) (departs_at t f (turn_at turns k)) (last_of t)
      (ready_within t a f turns map k) (departs_within t a f turns map k lt) (last_in t)))
    where
      by_station : (c x y : Bool) → bit x ≡ bit y → bit (c && x) ≡ bit (c && y)
      by_station true x y e = e
      by_station false x y e = refl

      at_last : (r d : ℕ) (waits : Bool) → r < period_of t → d < period_of t
          → bit waits + bit (nat_le d (last_of t)) ≡ bit (nat_le r (last_of t)) + bit (nat_lt d r) → bit waits ≡ bit (nat_lt d r)
      at_last r d waits ready departs law =
          let both : bit (nat_le d (last_of t)) ≡ bit (nat_le r (last_of t)) = ap bit (by_last t d departs) ∙ sym (ap bit (by_last t r ready)) in
          omega (arith, law, both, ap bit (by_last t r ready))

  -- so as many of the fleet's aircraft come to a station as leave it
  pub balances : (s : ℕ) → arrived t (weights_of a) f s (last_of t) ≡ departed t (weights_of a) f s (last_of t)
  balances s =
      let same = sum_below-agree (λ k. bit (waits_there t f turns s (last_of t) k)) (λ k. bit (crosses_there t f turns s k)) (length turns) (record { each = λ k lt. all_cross s k lt }) in
      omega (arith, same, all_turns t a f turns map s (last_of t) (last_in t))

-- where as many come as leave, a moment has stand 0
pub none_stands : (t : Tables) (w : Weights) (f s : ℕ) → arrived t w f s (last_of t) ≡ departed t w f s (last_of t)
    → (m : ℕ) × (m < period_of t) × (stand_of t w f s m ≡ 0)
unfolding need_of excess stand_of
none_stands t w f s balanced = elim (cases_lt 0 (need_of t w f s)) [
  | inl some ↦ let found = some_greatest (excess t w f s) (period_of t) some in (found.0, found.1, omega (arith, found.2))
  | inr none ↦ (last_of t, last_in t, omega (arith, none, balanced))
]

pub periods_beyond_use : PeriodsBeyondUse
unfolding used_of
periods_beyond_use t a f turns map = omega (arith, periods_are t a f turns map)

pub no_surplus : (t : Tables) (a : List ℕ) (f : ℕ) (turns : List Connection) (s : ℕ) → IsFitting t a f turns → s < stations_in t → surplus_at t a f turns s ≡ 0
no_surplus t a f turns s h below =
    let law = periods_beyond_use t a f turns h.map in
    let term = term_le (surplus_at t a f turns) s (stations_in t) below in
    omega (arith, law, term, h.fits)

pub waiting_is_stand : WaitingIsStand
waiting_is_stand t a f turns s m h below moment =
    let law = (waiting_law t a f turns s h.map).each m moment in
    omega (arith, law, no_surplus t a f turns s h below)

module _ (t : Tables) (a : List ℕ) (f : ℕ) (turns : List Connection) where
  fits_clean : IsFitting t a f turns → AreClean t a f turns
  fits_clean h = record {
    each = λ k lt. record {
      each = λ m moment waits.
          let s = station_at t (turn_at turns k) in
          let known : s < stations_in t = (t.in_range.legs_fit.each (turn_at turns k).arriving no_leg (h.map.each k lt).arriving).to in
          let there : waits_there t f turns s m k ≡ true = and_from (s == s) (waits_at t f (turn_at turns k) m) (eq-eqb s s refl) waits in
          let some = count_below-some (waits_there t f turns s m) (length turns) k lt there in
          let law = waiting_is_stand t a f turns s m h known moment in
          λ none. absurd (omega (arith, some, law, none));
    };
  }

  -- where all turns are clean, nothing waits at a moment with stand 0
  none_waits : AreClean t a f turns → (s m : ℕ) → m < period_of t → stand_of t (weights_of a) f s m ≡ 0 → waiting_at t f turns s m ≡ 0
  none_waits clean s m moment none = elim (cases_lt 0 (waiting_at t f turns s m)) [
    | inl some ↦
        let found = some_counted (waits_there t f turns s m) (length turns) some in
        let parts = and_parts (station_at t (turn_at turns found.0) == s) (waits_at t f (turn_at turns found.0) m) found.2 in
        let here : station_at t (turn_at turns found.0) ≡ s = eqb-true _ _ parts.0 in
        absurd ((clean.each found.0 found.1).each m moment parts.1 (subst (λ at. stand_of t (weights_of a) f at m ≡ 0) (sym here) none))
    | inr nothing ↦ omega arith
  ]

  clean_fits : IsSuccessorMap t a f turns → AreClean t a f turns → IsFitting t a f turns
  clean_fits map clean =
      let zeros = sum_below-agree (surplus_at t a f turns) (λ s. 0) (stations_in t) (record {
        each = λ s below.
            let quiet = none_stands t (weights_of a) f s (balances t a f turns map s) in
            let law = (waiting_law t a f turns s map).each quiet.0 quiet.1 in
            omega (arith, law, quiet.2, none_waits clean s quiet.0 quiet.1 quiet.2);
      }) in
      record { map = map; fits = omega (arith, periods_beyond_use t a f turns map, zeros, sum_below-zero (stations_in t)) }

pub fits_where_clean : FitsWhereClean
fits_where_clean t a f turns map = (fits_clean t a f turns, clean_fits t a f turns map)
