-- Which quickest fleets are taken makes no difference to the aircraft that all legs use.
use Rattle.std.proofs.Common.{◌≡◌, ℕ, ◌*◌, ◌+◌, ◌<◌, ◌%◌, ◌/◌, ◌==◌, ◌&&◌, nat_le, if◌then◌else◌, ℤ, pos, ◌-ℤ◌, refl, ap, ◌∙◌, arith}
use Rattle.sums.specs.Below.{sum_below}
use Rattle.sums.proofs.Maxima.{max_below-agree}
use Rattle.sums.proofs.Sums.{sum_below-agree}
use Rattle.fleet_model.specs.declared.tables.Tables.{Tables}
use Rattle.fleet_model.specs.Schedule.{leg_of, legs_in, period_of, stations_in}
use Rattle.fleet_model.specs.OwnTimes.{own_pair}
use Rattle.fleet_model.specs.Times.{busy_minutes, departure, laps_of, ready_minute}
use Rattle.fleet_model.proofs.OwnPairs.{own_departure}
use Rattle.stand_counts.specs.Flights.{arrived_by, coming_by, departed_by, excess_by, laps_at_by, laps_by, leaving_by, need_by, used_by}
use Rattle.node_aggregate.specs.island_cut.Spare.{AreQuickest, IsSpare, aircraft_in, joined_flights, spare_of}

module _ (t : Tables) (some other : ℕ → ℕ) (first : AreQuickest t some) (second : AreQuickest t other) where
  same_busy : (l : ℕ) → l < legs_in t → busy_minutes t (own_pair t l (some l)) ≡ busy_minutes t (own_pair t l (other l))
  same_busy l below =
      let x = first.each l below in
      let y = second.each l below in
      let no_more = x.quickest (other l) y.known y.allowed in
      let no_less = y.quickest (some l) x.known x.allowed in
      omega (arith, no_more, no_less)

  same_end : (l : ℕ) → l < legs_in t → departure t (own_pair t l (some l)) + busy_minutes t (own_pair t l (some l)) ≡ departure t (own_pair t l (other l)) + busy_minutes t (own_pair t l (other l))
  same_end l below = omega (arith, own_departure t l (some l) (other l), same_busy l below)

  same_ready : (l : ℕ) → l < legs_in t → ready_minute t (own_pair t l (some l)) ≡ ready_minute t (own_pair t l (other l))
  same_ready l below = ap (λ n. n % period_of t) (same_end l below)

  same_laps : (l : ℕ) → l < legs_in t → laps_of t (own_pair t l (some l)) ≡ laps_of t (own_pair t l (other l))
  same_laps l below = ap (λ n. n / period_of t) (same_end l below)

  pub same_departed : (s m : ℕ) → departed_by t (joined_flights t some) s m ≡ departed_by t (joined_flights t other) s m
  unfolding departed_by
  same_departed s m = sum_below-agree (leaving_by t (joined_flights t some) s m) (leaving_by t (joined_flights t other) s m) (legs_in t)
      (record { each = λ l below. ap (λ d. if ((leg_of t l).from == s) && nat_le d m then 1 else 0) (own_departure t l (some l) (other l)) })

  pub same_arrived : (s m : ℕ) → arrived_by t (joined_flights t some) s m ≡ arrived_by t (joined_flights t other) s m
  unfolding arrived_by
  same_arrived s m = sum_below-agree (coming_by t (joined_flights t some) s m) (coming_by t (joined_flights t other) s m) (legs_in t)
      (record { each = λ l below. ap (λ r. if ((leg_of t l).to == s) && nat_le r m then 1 else 0) (same_ready l below) })

  same_excess : (s m : ℕ) → excess_by t (joined_flights t some) s m ≡ excess_by t (joined_flights t other) s m
  unfolding excess_by
  same_excess s m = rw (same_departed s m, same_arrived s m) refl

  pub same_need : (s : ℕ) → need_by t (joined_flights t some) s ≡ need_by t (joined_flights t other) s
  unfolding need_by
  same_need s = max_below-agree (excess_by t (joined_flights t some) s) (excess_by t (joined_flights t other) s) (period_of t) (record { each = λ m within. same_excess s m })

  same_laps_flown : laps_by t (joined_flights t some) ≡ laps_by t (joined_flights t other)
  unfolding laps_by
  same_laps_flown = sum_below-agree (laps_at_by t (joined_flights t some)) (laps_at_by t (joined_flights t other)) (legs_in t)
      (record { each = λ l below. ap (λ n. 1 * n) (same_laps l below) })

  same_needs : sum_below (need_by t (joined_flights t some)) (stations_in t) ≡ sum_below (need_by t (joined_flights t other)) (stations_in t)
  same_needs = sum_below-agree (need_by t (joined_flights t some)) (need_by t (joined_flights t other)) (stations_in t) (record { each = λ s below. same_need s })

  pub same_use : used_by t (joined_flights t some) ≡ used_by t (joined_flights t other)
  unfolding used_by
  same_use = rw (same_needs, same_laps_flown) refl

-- what is left over by one choice of quickest fleets is left over by each
pub spare_found : (t : Tables) (some : ℕ → ℕ) → AreQuickest t some → (spare : ℤ) → spare ≡ spare_of t some → IsSpare t spare
spare_found t some first spare same = record {
  each = λ other second. same ∙ ap (λ n. pos (aircraft_in t) -ℤ pos n) (same_use t some other first second);
}
