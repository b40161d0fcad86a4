-- By any mixed plan of pairs that may be flown, all fleets need at each station, with the laps of what comes there, no
-- fewer aircraft than the joined_flights schedule. So where no aircraft is left over they need as many at each station, and
-- where none of the joined_flights schedule's stands, none of theirs does.
use Rattle.std.proofs.Common.{◌≡◌, ◌≢◌, ℕ, ◌+◌, ◌*◌, ◌-◌, ◌<◌, ◌≤◌, false, if◌then◌else◌, ◌==◌, ◌&&◌, nat_le, nat_lt, refl, sym, ◌∙◌, ap, subst, inl, inr, arith, mul-add}
use Rattle.std.proofs.Math.Nat.{mul-le-mul_left}
use Rattle.std.proofs.lemmas.Bool.{cases_lt, lt-ltb}
use Rattle.sums.specs.Below.{sum_below, max_below}
use Rattle.sums.proofs.Naturals.{times_below}
use Rattle.sums.proofs.Sums.{sum_below-add, sum_below-agree, sum_below-le, sum_below-swap, sum_below-zero}
use Rattle.sums.proofs.Tests.{by_test, no_both}
use Rattle.fleet_model.specs.declared.tables.Tables.{Tables}
use Rattle.fleet_model.specs.Counts.{Weights, arrived, coming, departed, has_come, has_left, leaving}
use Rattle.fleet_model.specs.Kept.{Domains}
use Rattle.fleet_model.specs.Mixed.{IsMixedPlan}
use Rattle.fleet_model.specs.Schedule.{IsPair, choices_in, departures_in, fleet_by, fleet_of, fleets_in, leg_of, leg_on, legs_in, no_leg, period_of, stations_in}
use Rattle.fleet_model.specs.OwnTimes.{own_pair}
use Rattle.fleet_model.specs.Times.{busy_minutes, laps_of, ready_minute}
use Rattle.fleet_model.specs.Use.{laps_at, laps_flown, need_of, stand_of, used_of}
use Rattle.fleet_model.specs.Whole.{KeepAllowed}
use Rattle.fleet_model.proofs.OwnPairs.{once_by_fleets, once_on, own_departure, own_flown}
use Rattle.fleet_model.proofs.UseLaws.{need_suffices}
use Rattle.stand_counts.specs.Flights.{arrived_by, coming_by, departed_by, excess_by, laps_at_by, laps_by, leaving_by, need_by, stand_by, used_by}
use Rattle.node_aggregate.specs.island_cut.Spare.{AreQuickest, aircraft_in, joined_flights}
use Rattle.node_aggregate.proofs.island_cut.LegSums.{max_at, one_departure, one_lap, one_pair, over_fleets, own_places, same_terms}
use Rattle.node_aggregate.proofs.island_cut.PlainDays.{IsPlainDay}
use Rattle.node_aggregate.proofs.island_cut.Slower.{slower_laps, slower_ready}

-- ---- in plain numbers
needed_at : (q need dep arr laps total : ℕ) → dep - arr ≡ need → q * dep + q * laps ≤ total + q * arr → q * laps ≤ total → q * need + q * laps ≤ total
needed_at q need dep arr laps total is at least = elim (cases_lt arr dep) [
  | inl more ↦ let parts : dep ≡ arr + need = omega (arith, is, more) in omega (arith, at, ap (λ n. q * n) parts, mul-add q arr need)
  | inr no_more ↦ let none : need ≡ 0 = omega (arith, is, no_more) in rw none (omega (arith, least))
]

none_stands_at : (q need arr dep needs come gone laps joined_laps total : ℕ) → need + arr ≤ dep → total ≡ q * need + q * joined_laps → total ≡ needs + laps
    → come + q * joined_laps ≤ laps + q * arr → q * dep ≤ gone → needs + come ≤ gone
none_stands_at q need arr dep needs come gone laps joined_laps total none is parts comes leaves =
    let row : q * (need + arr) ≤ q * dep = mul-le-mul_left q none in
    omega (arith, row, mul-add q need arr, is, parts, comes, leaves)

module _ (t : Tables) (keeps : Domains) (q : ℕ) (w : Weights) (fleets : ℕ → ℕ) (allowed : KeepAllowed t keeps) (plan : IsMixedPlan t keeps q w) (quick : AreQuickest t fleets) (day : IsPlainDay t) where
  no_slower : (l f : ℕ) → l < legs_in t → f < fleets_in t → w (own_pair t l f) ≢ 0 → busy_minutes t (own_pair t l (fleets l)) ≤ busy_minutes t (own_pair t l f)
  no_slower l f below known some =
      let pair : IsPair t (own_pair t l f) = (own_flown t l f below known).pair in
      by_test (keeps (own_pair t l f))
      (λ kept. (quick.each l below).quickest f known (allowed.each (own_pair t l f) pair kept))
      (λ not_kept. absurd (some (plan.kept (own_pair t l f) pair not_kept)))

  -- a choice by which no fleet flies the leg weighs nothing
  unflown : (l c : ℕ) → l < legs_in t → c < choices_in t l → nat_lt (fleet_by t (leg_on l c)) (fleets_in t) ≡ false → w (leg_on l c) ≡ 0
  unflown l c below choice out =
      let pair : IsPair t (leg_on l c) = record { leg = below; choice = choice } in
      by_test (keeps (leg_on l c))
      (λ kept. absurd (no_both out (lt-ltb (fleet_by t (leg_on l c)) (fleets_in t) (day.flown (leg_on l c) pair (allowed.each (leg_on l c) pair kept)))))
      (λ not_kept. plan.kept (leg_on l c) pair not_kept)

  -- so the weights of the fleets sum to the scale
  cover : (l : ℕ) → l < legs_in t → sum_below (λ f. w (own_pair t l f)) (fleets_in t) ≡ q
  cover l below =
      sym (once_by_fleets t w l day.once below)
      ∙ sum_below-agree (λ c. if nat_lt (fleet_by t (leg_on l c)) (fleets_in t) then w (leg_on l c) else 0) (λ c. w (leg_on l c)) (choices_in t l) (record {
        each = λ c choice. by_test (nat_lt (fleet_by t (leg_on l c)) (fleets_in t))
            (λ e. ap (λ b. if b then w (leg_on l c) else 0) e)
            (λ e. ap (λ b. if b then w (leg_on l c) else 0) e ∙ sym (unflown l c below choice e));
      })
      ∙ plan.cover l below

  -- ---- what fleets add up, leg by leg
  abbrev leaving_own : ℕ → ℕ → ℕ → ℕ → ℕ
  leaving_own f s m l = if has_left t (own_pair t l f) s m then w (own_pair t l f) else 0

  abbrev coming_own : ℕ → ℕ → ℕ → ℕ → ℕ
  coming_own f s m l = if has_come t (own_pair t l f) s m then w (own_pair t l f) else 0

  abbrev laps_own : ℕ → ℕ → ℕ
  laps_own f l = w (own_pair t l f) * laps_of t (own_pair t l f)

  departed_own : (f s m : ℕ) → f < fleets_in t → departed t w f s m ≡ sum_below (leaving_own f s m) (legs_in t)
  unfolding departed
  departed_own f s m known = sum_below-agree (leaving t w f s m) (leaving_own f s m) (departures_in t)
      (record { each = λ d below. ap (λ p. if has_left t p s m then w p else 0) (once_on t d f day.once below known) })
      ∙ ap (sum_below (leaving_own f s m)) day.once

  arrived_own : (f s m : ℕ) → f < fleets_in t → arrived t w f s m ≡ sum_below (coming_own f s m) (legs_in t)
  unfolding arrived
  arrived_own f s m known = sum_below-agree (coming t w f s m) (coming_own f s m) (departures_in t)
      (record { each = λ d below. ap (λ p. if has_come t p s m then w p else 0) (once_on t d f day.once below known) })
      ∙ ap (sum_below (coming_own f s m)) day.once

  laps_flown_own : (f : ℕ) → f < fleets_in t → laps_flown t w f ≡ sum_below (laps_own f) (legs_in t)
  unfolding laps_flown
  laps_flown_own f known = sum_below-agree (laps_at t w f) (laps_own f) (departures_in t)
      (record { each = λ d below. ap (λ p. w p * laps_of t p) (once_on t d f day.once below known) })
      ∙ ap (sum_below (laps_own f)) day.once

  all_departed : (s m : ℕ) → sum_below (λ f. departed t w f s m) (fleets_in t) ≡ sum_below (λ f. sum_below (leaving_own f s m) (legs_in t)) (fleets_in t)
  all_departed s m = sum_below-agree (λ f. departed t w f s m) (λ f. sum_below (leaving_own f s m) (legs_in t)) (fleets_in t) (record { each = λ f known. departed_own f s m known })

  all_arrived : (s m : ℕ) → sum_below (λ f. arrived t w f s m) (fleets_in t) ≡ sum_below (λ f. sum_below (coming_own f s m) (legs_in t)) (fleets_in t)
  all_arrived s m = sum_below-agree (λ f. arrived t w f s m) (λ f. sum_below (coming_own f s m) (legs_in t)) (fleets_in t) (record { each = λ f known. arrived_own f s m known })

  -- ---- the laws
  -- the laps of the flights that come to a station, of a fleet and of the joined_flights schedule
  abbrev laps_there : ℕ → ℕ → ℕ → ℕ
  laps_there f s l = if (leg_of t l).to == s then w (own_pair t l f) * laps_of t (own_pair t l f) else 0

  abbrev laps_joined : ℕ → ℕ → ℕ
  laps_joined s l = if (leg_of t l).to == s then laps_of t (own_pair t l (fleets l)) else 0

  abbrev laps_to : ℕ → ℕ
  laps_to s = sum_below (λ f. sum_below (laps_there f s) (legs_in t)) (fleets_in t)

  abbrev joined_laps_to : ℕ → ℕ
  joined_laps_to s = sum_below (laps_joined s) (legs_in t)

  abbrev needs_at : ℕ → ℕ
  needs_at s = sum_below (λ f. need_of t w f s) (fleets_in t)

  arrivals_law : (s m : ℕ) → sum_below (λ f. arrived t w f s m) (fleets_in t) + q * joined_laps_to s ≤ laps_to s + q * arrived_by t (joined_flights t fleets) s m
  unfolding arrived_by
  arrivals_law s m =
      let law = over_fleets (legs_in t) (fleets_in t) q (λ l f. w (own_pair t l f)) (λ l f. coming_own f s m l) (λ l f. laps_there f s l) (laps_joined s) (coming_by t (joined_flights t fleets) s m)
      (λ l f below known. one_pair ((leg_of t l).to == s) (nat_le (ready_minute t (own_pair t l f)) m) (nat_le (ready_minute t (own_pair t l (fleets l))) m)
      (w (own_pair t l f)) (laps_of t (own_pair t l f)) (laps_of t (own_pair t l (fleets l))) (λ some. slower_ready t l (fleets l) f (no_slower l f below known some) m))
      cover in
      omega (arith, law, all_arrived s m)

  laps_law : (s : ℕ) → q * joined_laps_to s ≤ laps_to s
  laps_law s =
      let law = over_fleets (legs_in t) (fleets_in t) q (λ l f. w (own_pair t l f)) (λ l f. 0) (λ l f. laps_there f s l) (laps_joined s) (λ l. 0)
      (λ l f below known. one_lap ((leg_of t l).to == s) (w (own_pair t l f)) (laps_of t (own_pair t l f)) (laps_of t (own_pair t l (fleets l))) (λ some. slower_laps t l (fleets l) f (no_slower l f below known some)))
      cover in
      omega (arith, law, ap (λ n. q * n) (sum_below-zero (legs_in t)))

  departures_law : (s m : ℕ) → q * departed_by t (joined_flights t fleets) s m ≤ sum_below (λ f. departed t w f s m) (fleets_in t)
  unfolding departed_by
  departures_law s m =
      let law = over_fleets (legs_in t) (fleets_in t) q (λ l f. w (own_pair t l f)) (λ l f. 0) (λ l f. leaving_own f s m l) (leaving_by t (joined_flights t fleets) s m) (λ l. 0)
      (λ l f below known. own_leaves l f s m)
      cover in
      omega (arith, law, all_departed s m, ap (λ n. q * n) (sum_below-zero (legs_in t)))
    where
      own_leaves : (l f s m : ℕ) → 0 + (if has_left t (own_pair t l (fleets l)) s m then 1 else 0) * w (own_pair t l f) ≤ leaving_own f s m l + 0 * w (own_pair t l f)
      own_leaves l f s m = subst (λ d. 0 + (if ((leg_of t l).from == s) && nat_le d m then 1 else 0) * w (own_pair t l f) ≤ leaving_own f s m l + 0 * w (own_pair t l f)) (own_departure t l f (fleets l)) (one_departure (has_left t (own_pair t l f) s m) (w (own_pair t l f)))

  needs_law : (s m : ℕ) → m < period_of t → sum_below (λ f. departed t w f s m) (fleets_in t) ≤ needs_at s + sum_below (λ f. arrived t w f s m) (fleets_in t)
  needs_law s m within = omega (
    arith,
    sum_below-le (λ f. departed t w f s m) (λ f. need_of t w f s + arrived t w f s m) (fleets_in t) (record { each = λ f known. (need_suffices t w f s).each m within }),
    sum_below-add (λ f. need_of t w f s) (λ f. arrived t w f s m) (fleets_in t),
  )

  at_minute : (s m : ℕ) → m < period_of t → q * departed_by t (joined_flights t fleets) s m + q * joined_laps_to s ≤ needs_at s + laps_to s + q * arrived_by t (joined_flights t fleets) s m
  at_minute s m within = omega (arith, arrivals_law s m, departures_law s m, needs_law s m within)

  -- at each station the fleets need no fewer than the joined_flights schedule
  no_fewer : (s : ℕ) → q * need_by t (joined_flights t fleets) s + q * joined_laps_to s ≤ needs_at s + laps_to s
  unfolding need_by excess_by
  no_fewer s = elim (max_at (excess_by t (joined_flights t fleets) s) (period_of t)) [
    | inl none ↦ omega (arith, ap (λ n. q * n) none, laps_law s)
    | inr found ↦
        needed_at q (max_below (excess_by t (joined_flights t fleets) s) (period_of t)) (departed_by t (joined_flights t fleets) s found.0) (arrived_by t (joined_flights t fleets) s found.0) (joined_laps_to s) (needs_at s + laps_to s)
        found.2 (at_minute s found.0 found.1) (omega (arith, laps_law s))
  ]

  -- over all stations, what fleets use
  fleet_uses : (f : ℕ) → f < fleets_in t → sum_below (need_of t w f) (stations_in t) + sum_below (λ s. sum_below (laps_there f s) (legs_in t)) (stations_in t) ≡ used_of t w f
  unfolding used_of
  fleet_uses f known = ap (λ n. sum_below (need_of t w f) (stations_in t) + n)
      (own_places (λ l. (leg_of t l).to) (λ l s. laps_own f l) (stations_in t) (legs_in t) (λ l below. (t.in_range.legs_fit.each l no_leg below).to) ∙ sym (laps_flown_own f known))

  all_use : sum_below (λ s. needs_at s + laps_to s) (stations_in t) ≡ sum_below (used_of t w) (fleets_in t)
  all_use = omega (
    arith,
    sum_below-add needs_at laps_to (stations_in t),
    sum_below-swap (λ s f. need_of t w f s) (fleets_in t) (stations_in t),
    sum_below-swap (λ s f. sum_below (laps_there f s) (legs_in t)) (fleets_in t) (stations_in t),
    sum_below-add (λ f. sum_below (need_of t w f) (stations_in t)) (λ f. sum_below (λ s. sum_below (laps_there f s) (legs_in t)) (stations_in t)) (fleets_in t),
    sum_below-agree (λ f. sum_below (need_of t w f) (stations_in t) + sum_below (λ s. sum_below (laps_there f s) (legs_in t)) (stations_in t)) (used_of t w) (fleets_in t)
        (record { each = λ f known. fleet_uses f known }),
  )

  have_enough : sum_below (used_of t w) (fleets_in t) ≤ q * aircraft_in t
  have_enough = omega (
    arith,
    sum_below-le (used_of t w) (λ f. q * (fleet_of t f).aircraft) (fleets_in t) (record { each = λ f known. plan.within f known }),
    times_below q (λ f. q * (fleet_of t f).aircraft) (λ f. (fleet_of t f).aircraft) (fleets_in t) (λ f known. refl),
  )

  joined_use : used_by t (joined_flights t fleets) ≡ sum_below (need_by t (joined_flights t fleets)) (stations_in t) + sum_below joined_laps_to (stations_in t)
  unfolding used_by laps_by
  joined_use = ap (λ n. sum_below (need_by t (joined_flights t fleets)) (stations_in t) + n) (
      sum_below-agree (laps_at_by t (joined_flights t fleets)) (λ l. laps_of t (own_pair t l (fleets l))) (legs_in t) (record { each = λ l below. omega arith })
      ∙ sym (own_places (λ l. (leg_of t l).to) (λ l s. laps_of t (own_pair t l (fleets l))) (stations_in t) (legs_in t) (λ l below. (t.in_range.legs_fit.each l no_leg below).to)))

  joined_scaled : sum_below (λ s. q * need_by t (joined_flights t fleets) s + q * joined_laps_to s) (stations_in t) ≡ q * used_by t (joined_flights t fleets)
  joined_scaled = omega (
    arith,
    sum_below-add (λ s. q * need_by t (joined_flights t fleets) s) (λ s. q * joined_laps_to s) (stations_in t),
    times_below q (λ s. q * need_by t (joined_flights t fleets) s) (need_by t (joined_flights t fleets)) (stations_in t) (λ s within. refl),
    times_below q (λ s. q * joined_laps_to s) joined_laps_to (stations_in t) (λ s within. refl),
    ap (λ n. q * n) joined_use,
    mul-add q (sum_below (need_by t (joined_flights t fleets)) (stations_in t)) (sum_below joined_laps_to (stations_in t)),
  )

  -- where none is left over, they need as many at each
  as_many : used_by t (joined_flights t fleets) ≡ aircraft_in t → (s : ℕ) → s < stations_in t → needs_at s + laps_to s ≡ q * need_by t (joined_flights t fleets) s + q * joined_laps_to s
  as_many none_left = same_terms (λ s. needs_at s + laps_to s) (λ s. q * need_by t (joined_flights t fleets) s + q * joined_laps_to s) (stations_in t)
      (λ s within. no_fewer s)
      (omega (arith, all_use, have_enough, joined_scaled, ap (λ n. q * n) none_left))

  none_stand : used_by t (joined_flights t fleets) ≡ aircraft_in t → (s m : ℕ) → s < stations_in t → stand_by t (joined_flights t fleets) s m ≡ 0
      → sum_below (λ f. need_of t w f s + arrived t w f s m) (fleets_in t) ≤ sum_below (λ f. departed t w f s m) (fleets_in t)
  unfolding stand_by
  none_stand none_left s m within empty =
      let law = none_stands_at q (need_by t (joined_flights t fleets) s) (arrived_by t (joined_flights t fleets) s m) (departed_by t (joined_flights t fleets) s m) (needs_at s)
      (sum_below (λ f. arrived t w f s m) (fleets_in t)) (sum_below (λ f. departed t w f s m) (fleets_in t)) (laps_to s) (joined_laps_to s) (needs_at s + laps_to s)
      (omega (arith, empty)) (as_many none_left s within) refl (arrivals_law s m) (departures_law s m) in
      omega (arith, law, sum_below-add (λ f. need_of t w f s) (λ f. arrived t w f s m) (fleets_in t))

  pub empty_for_each : used_by t (joined_flights t fleets) ≡ aircraft_in t → (f s m : ℕ) → f < fleets_in t → s < stations_in t → m < period_of t → stand_by t (joined_flights t fleets) s m ≡ 0 → stand_of t w f s m ≡ 0
  unfolding stand_of
  empty_for_each none_left f s m known station minute empty =
      let same = same_terms (λ g. need_of t w g s + arrived t w g s m) (λ g. departed t w g s m) (fleets_in t)
      (λ g within. (need_suffices t w g s).each m minute) (none_stand none_left s m station empty) f known in
      omega (arith, same)
