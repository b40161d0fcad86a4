-- The laws of islands.
use Rattle.std.proofs.Common.{◌≡◌, ℕ, ◌+◌, ◌-◌, ◌<◌, ◌≤◌, ◌&&◌, ◌==◌, nat_le, Bool, true, false, if◌then◌else◌, IsSome, refl, sym, ◌∙◌, ap, subst, inl, inr, arith}
use Rattle.std.proofs.lemmas.Bool.{cases_lt, eqb-true}
use Rattle.std.proofs.lemmas.Bool.Decides.{nat_tests}
use Rattle.sums.specs.Below.{sum_below}
use Rattle.sums.proofs.Naturals.{zero_number}
use Rattle.sums.proofs.Sums.{sum_below-add, sum_below-agree, sum_below-le}
use Rattle.sums.proofs.Tests.{both_true, parts_true}
use Rattle.fleet_model.specs.declared.parts.Pair.{Pair}
use Rattle.fleet_model.specs.declared.tables.Tables.{Tables}
use Rattle.fleet_model.specs.Kept.{all_pairs}
use Rattle.fleet_model.specs.Legal.{cost_of}
use Rattle.fleet_model.specs.OwnTimes.{own_pair}
use Rattle.fleet_model.specs.Schedule.{fleet_by, last_of, leg_of, leg_on, legs_in, no_leg, period_of, stations_in}
use Rattle.fleet_model.specs.Times.{departure, laps_of, ready_minute}
use Rattle.fleet_model.specs.Whole.{KeepAllowed}
use Rattle.fleet_model.proofs.KeptLaws.{allowed_is_kept}
use Rattle.fleet_model.proofs.MixedPlans.{legal_is_mixed}
use Rattle.fleet_model.proofs.OwnPairs.{once_flown, own_departure}
use Rattle.fleet_model.proofs.PeriodMinutes.{last_in}
use Rattle.stand_counts.specs.Flights.{arrived_by, coming_by, departed_by, excess_by, laps_at_by, laps_by, leaving_by, need_by, stand_by, used_by}
use Rattle.node_aggregate.specs.island_cut.IslandLaws.{AreChoicesFor, AreIdleAt, IdleIsEmpty, IdleIsEmptyInPlans, IsIdle, PaybackLaw, SomeIdle, left_by, ready_by}
use Rattle.node_aggregate.specs.island_cut.Islands.{balance_by, has_islands, have_pairs, is_idle, joined_legs, quickest_of}
use Rattle.node_aggregate.specs.island_cut.PlainDay.{is_plain_day}
use Rattle.node_aggregate.specs.island_cut.Spare.{AreQuickest, aircraft_in}
use Rattle.node_aggregate.proofs.island_cut.Counted.{none_counted}
use Rattle.node_aggregate.proofs.island_cut.FleetTotals.{empty_for_each}
use Rattle.node_aggregate.proofs.island_cut.LegSums.{max_at, own_places}
use Rattle.node_aggregate.proofs.island_cut.PlainDays.{IsPlainDay, day_tested}
use Rattle.node_aggregate.proofs.island_cut.QuickestFleets.{pairs_tested, quickest_are}
use Rattle.node_aggregate.proofs.island_cut.Slower.{slower_ready}

-- what the test of islands says
pub record AreIslands (t : Tables) : Type 0 where
  pub day : IsPlainDay t
  pub pairs : have_pairs t ≡ true
  pub balanced : balance_by t (joined_legs t) ≡ true
  pub none_left : used_by t (joined_legs t) ≡ aircraft_in t

pub islands_tested : (t : Tables) → has_islands t ≡ true → AreIslands t
unfolding has_islands
islands_tested t e =
    let day = parts_true (is_plain_day t) _ e in
    let parts = parts_true (have_pairs t && balance_by t (joined_legs t)) _ day.1 in
    let front = parts_true (have_pairs t) _ parts.0 in
    record { day = day_tested t day.0; pairs = front.0; balanced = front.1; none_left = eqb-true _ _ parts.1 }

pub quickest_there : (t : Tables) → has_islands t ≡ true → AreQuickest t (quickest_of t)
quickest_there t e = quickest_are t (pairs_tested t (islands_tested t e).pairs)

pub record IsEmptyMinute (t : Tables) (s m : ℕ) : Type 0 where
  pub islands : has_islands t ≡ true
  pub stand : stand_by t (joined_legs t) s m ≡ 0

pub idle_tested : (t : Tables) (s m : ℕ) → is_idle t s m ≡ true → IsEmptyMinute t s m
unfolding is_idle
idle_tested t s m e = let parts = parts_true (has_islands t) _ e in record { islands = parts.0; stand = zero_number _ parts.1 }

idle_where : (t : Tables) (s m : ℕ) → has_islands t ≡ true → stand_by t (joined_legs t) s m ≡ 0 → is_idle t s m ≡ true
unfolding is_idle
idle_where t s m islands empty = both_true _ _ islands (grind (arith, nat_tests))

pub idle_is_empty : IdleIsEmpty
idle_is_empty t keeps scale w allowed plan f s m known idle =
    let empty = idle_tested t s m idle.idle in
    empty_for_each t keeps scale w (quickest_of t) allowed plan (quickest_there t empty.islands) (islands_tested t empty.islands).day (islands_tested t empty.islands).none_left f s m known idle.station idle.minute empty.stand

all_allowed : (t : Tables) → KeepAllowed t (all_pairs t)
all_allowed t = record { each = λ p known kept. kept }

pub idle_is_empty_in_plans : IdleIsEmptyInPlans
idle_is_empty_in_plans t a legal f s m known idle =
    idle_is_empty t (all_pairs t) 1 _ (all_allowed t) (legal_is_mixed t (all_pairs t) a (allowed_is_kept t a legal.assignment legal.allowed) legal).plan f s m known idle

-- ---- each station has an idle minute
balanced_there : (t : Tables) → has_islands t ≡ true → (s : ℕ) → s < stations_in t → arrived_by t (joined_legs t) s (last_of t) ≡ departed_by t (joined_legs t) s (last_of t)
balanced_there t islands s within =
    let fails = none_counted _ (stations_in t) s (islands_tested t islands).balanced within in
    grind (arith, nat_tests)

-- where nothing is needed, the last minute is one
last_is_idle : (t : Tables) → has_islands t ≡ true → (s : ℕ) → s < stations_in t → need_by t (joined_legs t) s ≡ 0 → IsIdle t s (last_of t)
unfolding stand_by
last_is_idle t islands s within none = record {
  station = within;
  minute = last_in t;
  idle = idle_where t s (last_of t) islands (omega (arith, none, balanced_there t islands s within));
}

idle_at_peak : (t : Tables) → has_islands t ≡ true → (s m : ℕ) → s < stations_in t → m < period_of t → arrived_by t (joined_legs t) s m ≤ departed_by t (joined_legs t) s m
    → departed_by t (joined_legs t) s m - arrived_by t (joined_legs t) s m ≡ need_by t (joined_legs t) s → IsIdle t s m
unfolding stand_by
idle_at_peak t islands s m station minute more is = record {
  station = station;
  minute = minute;
  idle = idle_where t s m islands (omega (arith, more, is));
}

some_idle_at : (t : Tables) → has_islands t ≡ true → (s : ℕ) → s < stations_in t → (m : ℕ) × IsIdle t s m
unfolding need_by excess_by
some_idle_at t islands s within = elim (max_at (excess_by t (joined_legs t) s) (period_of t)) [
  | inl none ↦ ((last_of t), last_is_idle t islands s within none)
  | inr found ↦ elim (cases_lt (departed_by t (joined_legs t) s found.0) (arrived_by t (joined_legs t) s found.0)) [
    | inl less ↦ ((last_of t), last_is_idle t islands s within (omega (arith, found.2, less)))
    | inr more ↦ (found.0, idle_at_peak t islands s found.0 within found.1 more found.2)
  ]
]

pub some_idle : SomeIdle
some_idle t islands s within = some_idle_at t islands s within

-- ---- payback
-- a test that is split by the station
split_test : (b c : Bool) → ◌≡◌ {A = ℕ} (if b && c then 1 else 0) (if b then (if c then 1 else 0) else 0)
split_test true c = refl
split_test false c = refl

module _ (t : Tables) (at choices : ℕ → ℕ) (idle : AreIdleAt t at) (flown : AreChoicesFor t choices) where
  islands : AreIslands t
  islands = islands_tested t idle.islands

  quickest : AreQuickest t (quickest_of t)
  quickest = quickest_there t idle.islands

  -- the pair of a leg by the choices, and as the joined schedule flies it
  abbrev chosen : ℕ → Pair
  chosen l = leg_on l (choices l)

  abbrev quick : ℕ → Pair
  quick l = own_pair t l (quickest_of t l)

  -- the first is the pair of a fleet at the leg's own time
  is_own : (l : ℕ) → l < legs_in t → own_pair t l (fleet_by t (chosen l)) ≡ chosen l
  is_own l below = once_flown t (chosen l) islands.day.once (flown.known l below)

  -- at its idle minute no aircraft of the joined schedule stands at a station
  come_and_gone : (s : ℕ) → s < stations_in t → need_by t (joined_legs t) s + arrived_by t (joined_legs t) s (at s) ≤ departed_by t (joined_legs t) s (at s)
  unfolding stand_by
  come_and_gone s within = omega (arith, (idle_tested t s (at s) (idle.each s within).idle).stand)

  at_stations : sum_below (need_by t (joined_legs t)) (stations_in t) + sum_below (λ s. arrived_by t (joined_legs t) s (at s)) (stations_in t) ≤ sum_below (λ s. departed_by t (joined_legs t) s (at s)) (stations_in t)
  at_stations = omega (
    arith,
    sum_below-le (λ s. need_by t (joined_legs t) s + arrived_by t (joined_legs t) s (at s)) (λ s. departed_by t (joined_legs t) s (at s)) (stations_in t) (record { each = come_and_gone }),
    sum_below-add (need_by t (joined_legs t)) (λ s. arrived_by t (joined_legs t) s (at s)) (stations_in t),
  )

  all_ready : sum_below (λ s. arrived_by t (joined_legs t) s (at s)) (stations_in t) ≡ sum_below (λ l. ready_by t at (quick l)) (legs_in t)
  unfolding arrived_by
  all_ready =
      sum_below-agree (λ s. sum_below (coming_by t (joined_legs t) s (at s)) (legs_in t))
      (λ s. sum_below (λ l. if (leg_of t l).to == s then (if nat_le (ready_minute t (quick l)) (at s) then 1 else 0) else 0) (legs_in t)) (stations_in t)
      (record { each = λ s within. sum_below-agree _ _ (legs_in t) (record { each = λ l below. split_test ((leg_of t l).to == s) (nat_le (ready_minute t (quick l)) (at s)) }) })
      ∙ own_places (λ l. (leg_of t l).to) (λ l s. if nat_le (ready_minute t (quick l)) (at s) then 1 else 0) (stations_in t) (legs_in t) (λ l below. (t.in_range.legs_fit.each l no_leg below).to)

  -- both leave at the leg's own time
  same_left : (l : ℕ) → l < legs_in t → departure t (quick l) ≡ departure t (chosen l)
  same_left l below = own_departure t l (quickest_of t l) (fleet_by t (chosen l)) ∙ ap (departure t) (is_own l below)

  all_left : sum_below (λ s. departed_by t (joined_legs t) s (at s)) (stations_in t) ≡ sum_below (λ l. left_by t at (chosen l)) (legs_in t)
  unfolding departed_by
  all_left =
      sum_below-agree (λ s. sum_below (leaving_by t (joined_legs t) s (at s)) (legs_in t))
      (λ s. sum_below (λ l. if (leg_of t l).from == s then (if nat_le (departure t (quick l)) (at s) then 1 else 0) else 0) (legs_in t)) (stations_in t)
      (record { each = λ s within. sum_below-agree _ _ (legs_in t) (record { each = λ l below. split_test ((leg_of t l).from == s) (nat_le (departure t (quick l)) (at s)) }) })
      ∙ own_places (λ l. (leg_of t l).from) (λ l s. if nat_le (departure t (quick l)) (at s) then 1 else 0) (stations_in t) (legs_in t) (λ l below. (t.in_range.legs_fit.each l no_leg below).from)
      ∙ sum_below-agree (λ l. left_by t at (quick l)) (λ l. left_by t at (chosen l)) (legs_in t) (record { each = λ l below. ap (λ d. if nat_le d (at (leg_of t l).from) then 1 else 0) (same_left l below) })

  joined_uses : aircraft_in t ≡ sum_below (need_by t (joined_legs t)) (stations_in t) + sum_below (λ l. laps_of t (quick l)) (legs_in t)
  unfolding used_by laps_by
  joined_uses = sym islands.none_left
      ∙ ap (λ n. sum_below (need_by t (joined_legs t)) (stations_in t) + n) (sum_below-agree (laps_at_by t (joined_legs t)) (λ l. laps_of t (quick l)) (legs_in t) (record { each = λ l below. omega arith }))

  slower_there : (l : ℕ) → l < legs_in t → laps_of t (quick l) + ready_by t at (chosen l) ≤ laps_of t (chosen l) + ready_by t at (quick l)
  slower_there l below =
      let own = is_own l below in
      let allowed : IsSome (cost_of t (own_pair t l (fleet_by t (chosen l)))) = subst (λ p. IsSome (cost_of t p)) (sym own) (flown.allowed l below) in
      let order = (quickest.each l below).quickest (fleet_by t (chosen l)) (flown.known l below).by allowed in
      subst (λ p. laps_of t (quick l) + (if nat_le (ready_minute t p) (at (leg_of t l).to) then 1 else 0) ≤ laps_of t p + ready_by t at (quick l)) own
      (slower_ready t l (quickest_of t l) (fleet_by t (chosen l)) order (at (leg_of t l).to))

  slower : sum_below (λ l. laps_of t (quick l)) (legs_in t) + sum_below (λ l. ready_by t at (chosen l)) (legs_in t) ≤ sum_below (λ l. laps_of t (chosen l)) (legs_in t) + sum_below (λ l. ready_by t at (quick l)) (legs_in t)
  slower = omega (
    arith,
    sum_below-le (λ l. laps_of t (quick l) + ready_by t at (chosen l)) (λ l. laps_of t (chosen l) + ready_by t at (quick l)) (legs_in t) (record { each = slower_there }),
    sum_below-add (λ l. laps_of t (quick l)) (λ l. ready_by t at (chosen l)) (legs_in t),
    sum_below-add (λ l. laps_of t (chosen l)) (λ l. ready_by t at (quick l)) (legs_in t),
  )

  paid_back : aircraft_in t + sum_below (λ l. ready_by t at (chosen l)) (legs_in t) ≤ sum_below (λ l. laps_of t (chosen l)) (legs_in t) + sum_below (λ l. left_by t at (chosen l)) (legs_in t)
  paid_back = omega (arith, at_stations, all_ready, all_left, joined_uses, slower)

pub payback_law : PaybackLaw
payback_law t at choices idle flown = paid_back t at choices idle flown
