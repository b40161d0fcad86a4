-- The least idle minute of a station is one, where there are islands.
use Rattle.std.proofs.Common.{◌≡◌, ℕ, zero, suc, ◌<◌, ◌≤◌, Bool, true, false, cond, ◌==◌, List, [], ◌∷◌, ◌++◌, map, length, get_or, filter, All, Contains, sym, ◌∙◌, ap, subst, inl, inr, add-one, length-append, arith}
use Rattle.std.proofs.lemmas.Bool.{cases_lt, eqb-true}
use Rattle.std.proofs.lemmas.List.{get_or-map, get_or_append_left, get_or_read, length-map}
use Rattle.std.proofs.lemmas.List.Elements.{All-append, All-filter, All-map, All-nil, Contains-append_left, Contains-append_right, filter_passes}
use Rattle.std.proofs.lemmas.List.FromFn.{filter_of_map_range_with_len_more}
use mathlib.Core.Bool.{false≢true}
use Rattle.sums.specs.Places.{list_below}
use Rattle.sums.proofs.Naturals.{equal_number}
use Rattle.sums.proofs.Places.{get_or-list_below, length-list_below}
use Rattle.sums.proofs.Tests.{by_test}
use Rattle.fleet_model.specs.Schedule.{period_of, stations_in}
use Rattle.fleet_model.specs.declared.tables.Tables.{Tables}
use Rattle.node_aggregate.specs.island_cut.IslandLaws.{IsIdle}
use Rattle.node_aggregate.specs.island_cut.Islands.{has_islands, idle_at, idle_minutes, idles_below, idles_of, is_idle}
use Rattle.node_aggregate.specs.declared.island_cut.idle_minutes.Idle.{Idle}
use Rattle.node_aggregate.proofs.island_cut.IslandProofs.{some_idle}
use Rattle.island_prices.specs.Least.{least_idle, least_in}
use Rattle.island_prices.proofs.TakenMoments.{HasPlace, at_end}

-- the first entry of a station in two lists one behind another: one of the first, or else one of the second
module _ (P : ℕ → Type 0) (s : ℕ) where
  -- each entry of the station has the property, and where there is one, the first has it
  abbrev Each : List Idle → Type 0
  Each xs = (k : ℕ) (d : Idle) → k < length xs → (get_or xs k d).station ≡ s → P (get_or xs k d).minute

  abbrev Some : List Idle → Type 0
  Some xs = (k : ℕ) × ((k < length xs) × ((d : Idle) → (get_or xs k d).station ≡ s))

  picked : (xs : List Idle) → Each xs → Some xs → P (least_in xs s)
  unfolding least_in
  picked [] each some = absurd (omega (arith, some.1.0))
  picked (x ∷ xs) each some = by_test (x.station == s)
      (λ e. subst (λ b. P (cond b x.minute (least_in xs s))) (sym e) (each 0 x (omega arith) (eqb-true x.station s e)))
      (λ e. subst (λ b. P (cond b x.minute (least_in xs s))) (sym e) (picked xs (λ k d below is. each (suc k) d (omega arith) is) (rest some.0 some.1 e)))
    where
      rest : (k : ℕ) → (k < suc (length xs)) × ((d : Idle) → (get_or (x ∷ xs) k d).station ≡ s) → (x.station == s) ≡ false → Some xs
      rest zero there other = absurd (false≢true (sym other ∙ equal_number x.station s (there.1 x)))
      rest (suc k) there other = (k, (omega (arith, there.0), there.1))

-- ---- the idle minutes
-- a number that passes has a place among those that do
passing_place : (p : ℕ → Bool) (m n : ℕ) → m < n → p m ≡ true → HasPlace (filter p (list_below (λ k. k) n)) m
passing_place p m zero below passes = absurd (omega arith)
passing_place p m (suc n) below passes = subst (λ xs. HasPlace xs m) (sym (one_on n)) (elim (cases_lt m n) [
  | inl less ↦
      let before = passing_place p m n less passes in
      record {
        place = before.place;
        within = omega (arith, before.within, length-append (filter p (list_below (λ k. k) n)) (cond (p n) (n ∷ []) []));
        there = λ d. get_or_append_left (filter p (list_below (λ k. k) n)) (cond (p n) (n ∷ []) []) d before.place before.within ∙ before.there d;
      }
  | inr last ↦
      let same : n ≡ m = omega arith in
      let here : p n ≡ true = ap p same ∙ passes in
      subst (λ b. HasPlace (filter p (list_below (λ k. k) n) ++ cond b (n ∷ []) []) m) (sym here) (record {
        place = length (filter p (list_below (λ k. k) n));
        within = omega (arith, length-append (filter p (list_below (λ k. k) n)) (n ∷ []));
        there = λ d. at_end (filter p (list_below (λ k. k) n)) n d ∙ same;
      })
])
  where
    one_on : (n : ℕ) → filter p (list_below (λ k. k) (suc n)) ≡ filter p (list_below (λ k. k) n) ++ cond (p n) (n ∷ []) []
    one_on n = ap (λ k. filter p (list_below (λ j. j) k)) (sym (add-one n)) ∙ filter_of_map_range_with_len_more p (λ k. k) 0 n n (omega arith)

module _ (t : Tables) where
  -- each entry is an idle minute of its station
  abbrev IsIdleEntry : ℕ → Idle → Type 0
  IsIdleEntry s e = e.station ≡ s → IsIdle t s e.minute

  below_period : (n : ℕ) → All (λ m. m < n) (list_below (λ m. m) n)
  below_period n = λ k d below.
      let inside : k < n = omega (arith, below, length-list_below (λ m. m) n) in
      subst (λ m. m < n) (sym (get_or-list_below (λ m. m) n k d inside)) inside

  of_station : (s r : ℕ) → r < stations_in t → All (IsIdleEntry s) (map (idle_at r) (idle_minutes t r))
  of_station s r within = All-map (IsIdleEntry s) (idle_at r) (idle_minutes t r) (λ k d below same.
      let m = get_or (idle_minutes t r) k d in
      let passes = filter_passes (is_idle t r) (list_below (λ m. m) (period_of t)) k d below in
      let early = All-filter (is_idle t r) (λ m. m < period_of t) (list_below (λ m. m) (period_of t)) (below_period (period_of t)) k d below in
      subst (λ q. IsIdle t q m) same (record { station = within; minute = early; idle = passes }))

  all_idle : (s n : ℕ) → n ≤ stations_in t → All (IsIdleEntry s) (idles_below t n)
  unfolding idles_below
  all_idle s zero within = All-nil (IsIdleEntry s)
  all_idle s (suc n) within = All-append (IsIdleEntry s) (idles_below t n) (map (idle_at n) (idle_minutes t n)) (all_idle s n (omega arith)) (of_station s n (omega arith))

  -- and a station with an idle minute has an entry
  in_station : (s m : ℕ) → IsIdle t s m → Contains (map (idle_at s) (idle_minutes t s)) (idle_at s m)
  in_station s m is =
      let at = passing_place (is_idle t s) m (period_of t) is.minute is.idle in
      (at.place, omega (arith, at.within, length-map (idle_minutes t s) (idle_at s)), get_or-map (idle_at s) (idle_minutes t s) at.place 0 (idle_at s m) at.within ∙ ap (idle_at s) (at.there 0))

  among_all : (s m n : ℕ) → s < n → IsIdle t s m → Contains (idles_below t n) (idle_at s m)
  unfolding idles_below
  among_all s m zero below is = absurd (omega arith)
  among_all s m (suc n) below is = elim (cases_lt s n) [
    | inl less ↦ Contains-append_left (idles_below t n) (map (idle_at n) (idle_minutes t n)) (idle_at s m) (among_all s m n less is)
    | inr last ↦
        let same : s ≡ n = omega arith in
        subst (λ r. Contains (idles_below t r ++ map (idle_at r) (idle_minutes t r)) (idle_at s m)) same
        (Contains-append_right (idles_below t s) (map (idle_at s) (idle_minutes t s)) (idle_at s m) (in_station s m is))
  ]

  -- where there are islands, the least is one
  pub least_is_idle : has_islands t ≡ true → (s : ℕ) → s < stations_in t → IsIdle t s (get_or (least_idle t) s 0)
  unfolding least_idle
  least_is_idle islands s within =
      let some = some_idle t islands s within in
      let among = among_all s some.0 (stations_in t) within some.1 in
      subst (λ m. IsIdle t s m) (sym (get_or-list_below (least_in (idles_of t)) (stations_in t) s 0 within))
      (picked (λ m. IsIdle t s m) s (idles_of t) (all_idle s (stations_in t) (omega arith)) (among.0, (among.1, λ d. ap (λ e. e.station) (sym (get_or_read (idles_of t) among.0 (idle_at s some.0) among.1 (sym among.2) d)))))

  pub least_long : length (least_idle t) ≡ stations_in t
  unfolding least_idle
  least_long = length-list_below (least_in (idles_of t)) (stations_in t)
