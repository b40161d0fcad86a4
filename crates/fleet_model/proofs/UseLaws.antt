-- Need is the least stock that suffices, and use is the same at each minute.
use Rattle.std.proofs.Common.{◌≡◌, ℕ, ◌+◌, ◌*◌, ◌<◌, Bool, true, false, if◌then◌else◌, ◌==◌, ◌&&◌, nat_le, List, ap, ◌∙◌, arith}
use Rattle.std.proofs.lemmas.Bool.Decides.{nat_tests}
use Rattle.sums.specs.Below.{sum_below}
use Rattle.sums.proofs.Sums.{sum_below-agree, sum_below-add, sum_below-swap, sum_below-one, sum_below-zero}
use Rattle.sums.proofs.Maxima.{max_below-upper, max_below-least}
use Rattle.fleet_model.specs.declared.tables.Tables.{Tables}
use Rattle.fleet_model.specs.Schedule.{departures_in, fleets_in, leg_at, leg_of, no_leg, pair_on, period_of, stations_in}
use Rattle.fleet_model.specs.Times.{departure, busy_minutes, ready_minute, laps_of}
use Rattle.fleet_model.specs.Counts.{Weights, has_left, has_come, departed, arrived}
use Rattle.fleet_model.specs.Use.{excess, need_of, stand_of, laps_flown, used_of}
use Rattle.fleet_model.specs.Aloft.{aloft, under_way, on_the_ground}
use Rattle.fleet_model.specs.Laws.{NeedSuffices, NeedIsLeast, UseIsConstant, CountsAreLegs}
use Rattle.fleet_model.specs.Legal.{IsAssignment}
use Rattle.fleet_model.proofs.Choices.{of_departure, planned_where}
use Rattle.fleet_model.proofs.PeriodMinutes.{departs_on, in_period, lap_split, some_minutes}
use Rattle.fleet_model.proofs.Periods.{if_le, aloft_at}

pub need_suffices : NeedSuffices
unfolding need_of excess
need_suffices t w f s = record { each = λ m within. omega (arith, max_below-upper (excess t w f s) (period_of t) m within) }

pub need_is_least : NeedIsLeast
unfolding need_of excess
need_is_least t w f s stock enough =
    max_below-least (excess t w f s) stock (period_of t) (record { each = λ m within. omega (arith, enough.each m within) })

-- what has become ready by the end of a minute, at any station
abbrev come_by : Tables → Weights → ℕ → ℕ → ℕ → ℕ
come_by t w f m d = w (pair_on t d f) * if_le (ready_minute t (pair_on t d f)) m

-- what has left by the end of a minute, at any station
abbrev gone_by : Tables → Weights → ℕ → ℕ → ℕ → ℕ
gone_by t w f m d = w (pair_on t d f) * if_le (departure t (pair_on t d f)) m

-- a value that counts at one station alone
one_station : (place value stations : ℕ) (b : Bool) → place < stations → sum_below (λ s. if (place == s) && b then value else 0) stations ≡ value * (if b then 1 else 0)
one_station place value stations true within =
    let same = sum_below-agree (λ s. if (place == s) && true then value else 0) (λ s. if place == s then value else 0) stations (record { each = λ s below. grind (arith, nat_tests) }) in
    omega (arith, same, sum_below-one place value stations within)
one_station place value stations false within =
    let same = sum_below-agree (λ s. if (place == s) && false then value else 0) (λ s. 0) stations (record { each = λ s below. grind (arith, nat_tests) }) in
    omega (arith, same, sum_below-zero stations)

-- each leg's place is a station
record AreStations (place : ℕ → ℕ) (stations legs : ℕ) : Type 0 where
  each : (l : ℕ) → l < legs → place l < stations

-- what is counted at the stations, one by one, is counted once for each leg
over_stations : (place : ℕ → ℕ) (test : ℕ → Bool) (value : ℕ → ℕ) (stations legs : ℕ) → AreStations place stations legs
    → sum_below (λ s. sum_below (λ l. if (place l == s) && test l then value l else 0) legs) stations ≡ sum_below (λ l. value l * (if test l then 1 else 0)) legs
over_stations place test value stations legs known =
    sum_below-swap (λ s l. if (place l == s) && test l then value l else 0) legs stations
    ∙ sum_below-agree (λ l. sum_below (λ s. if (place l == s) && test l then value l else 0) stations) (λ l. value l * (if test l then 1 else 0)) legs
    (record { each = λ l below. one_station (place l) (value l) stations (test l) (known.each l below) })

module _ (t : Tables) (w : Weights) (f m : ℕ) (within : m < period_of t) where
  -- one departure: the flights under way, with what has come, are the laps with what has gone
  departure_law : (d : ℕ) → d < departures_in t → w (pair_on t d f) * aloft t (pair_on t d f) m + come_by t w f m d ≡ w (pair_on t d f) * laps_of t (pair_on t d f) + gone_by t w f m d
  departure_law d below =
      let p = pair_on t d f in
      let x = departure t p + busy_minutes t p in
      let law = aloft_at (period_of t) (departure t p) m (laps_of t p) (ready_minute t p) x (lap_split t p) (departs_on t d f below) within (in_period t x) (omega arith) (some_minutes t) in
      omega (arith, ap (λ n. w p * n) law)

  all_come : sum_below (λ s. arrived t w f s m) (stations_in t) ≡ sum_below (come_by t w f m) (departures_in t)
  unfolding arrived
  all_come = over_stations (λ d. (leg_of t (leg_at t d)).to) (λ d. nat_le (ready_minute t (pair_on t d f)) m) (λ d. w (pair_on t d f)) (stations_in t) (departures_in t)
      (record { each = λ d below. (t.in_range.legs_fit.each (leg_at t d) no_leg (of_departure t d below)).to })

  all_gone : sum_below (λ s. departed t w f s m) (stations_in t) ≡ sum_below (gone_by t w f m) (departures_in t)
  unfolding departed
  all_gone = over_stations (λ d. (leg_of t (leg_at t d)).from) (λ d. nat_le (departure t (pair_on t d f)) m) (λ d. w (pair_on t d f)) (stations_in t) (departures_in t)
      (record { each = λ d below. (t.in_range.legs_fit.each (leg_at t d) no_leg (of_departure t d below)).from })

  -- the same, over all departures
  departures_law : under_way t w f m + sum_below (come_by t w f m) (departures_in t) ≡ laps_flown t w f + sum_below (gone_by t w f m) (departures_in t)
  unfolding laps_flown
  departures_law =
      let out = λ (d : ℕ). w (pair_on t d f) * aloft t (pair_on t d f) m in
      let flown = λ (d : ℕ). w (pair_on t d f) * laps_of t (pair_on t d f) in
      omega (
        arith,
        sum_below-agree (λ d. out d + come_by t w f m d) (λ d. flown d + gone_by t w f m d) (departures_in t) (record { each = departure_law }),
        sum_below-add out (come_by t w f m) (departures_in t),
        sum_below-add flown (gone_by t w f m) (departures_in t),
      )

  -- what stands at the stations, with what has gone, is what stood there at the day start and what has come
  ground_law : on_the_ground t w f m + sum_below (λ s. departed t w f s m) (stations_in t)
      ≡ sum_below (need_of t w f) (stations_in t) + sum_below (λ s. arrived t w f s m) (stations_in t)
  unfolding stand_of
  ground_law = omega (
    arith,
    sum_below-agree (λ s. stand_of t w f s m + departed t w f s m) (λ s. need_of t w f s + arrived t w f s m) (stations_in t)
        (record { each = λ s below. omega (arith, (need_suffices t w f s).each m within) }),
    sum_below-add (λ s. stand_of t w f s m) (λ s. departed t w f s m) (stations_in t),
    sum_below-add (need_of t w f) (λ s. arrived t w f s m) (stations_in t),
  )

pub use_is_constant : UseIsConstant
unfolding used_of
use_is_constant t w f m within =
    omega (arith, departures_law t w f m within, ground_law t w f m within, all_come t w f m within, all_gone t w f m within)

pub counts_are_legs : (t : Tables) (a : List ℕ) (f s m : ℕ) → IsAssignment t a → f < fleets_in t → CountsAreLegs t a f s m
unfolding departed arrived
counts_are_legs t a f s m assignment known = record {
  departures = planned_where t a f assignment known (λ p. has_left t p s m);
  arrivals = planned_where t a f assignment known (λ p. has_come t p s m);
}
