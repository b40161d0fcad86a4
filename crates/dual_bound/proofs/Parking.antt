-- Charges for the aircraft of all fleets: no more than the limits allow.
use Rattle.std.proofs.Common.{◌≡◌, ℕ, ◌+◌, ◌*◌, ◌<◌, true, false, Option, Some, None, pos, ◌*ℤ◌, ◌≤ℤ◌, refl, sym, ◌∙◌, ap, subst, arith}
use Rattle.std.specs.Prelude.{unwrap_or}
use Rattle.std.proofs.lemmas.Bool.{eqb-true}
use Rattle.std.proofs.lemmas.Int.{ints}
use lib.IntN.{*ℤ-zero}
use Rattle.sums.specs.Below.{sum_below, sum_below_ℤ}
use Rattle.sums.proofs.Integers.{*ℤ_assoc}
use Rattle.sums.proofs.Orders.{more_times, sum_below_ℤ-le}
use Rattle.sums.proofs.Tests.{by_test}
use Rattle.sums.proofs.WholeSums.{*ℤ-sum_below_ℤ, sum_below_ℤ-same}
use Rattle.sums.proofs.WholeSwaps.{sum_below-times, sum_below_ℤ-swap, where_true}
use Rattle.fleet_model.specs.Period.{days_ended, ends_day, minute_of_day}
use Rattle.fleet_model.specs.declared.tables.Tables.{Tables}
use Rattle.fleet_model.specs.Counts.{Weights}
use Rattle.fleet_model.specs.Legal.{HasRoom}
use Rattle.fleet_model.specs.Schedule.{day_end, fleets_in, parking_limit, parking_of, period_of, stations_in}
use Rattle.fleet_model.specs.Use.{parked, stand_of}
use Rattle.dual_bound.specs.Prices.{AreCharges, IsCharge, charge_of}
use Rattle.dual_bound.specs.declared.prices.Prices.{Prices}
use Rattle.dual_bound.proofs.Charges.{charge_after, charges_at, day_within, some_day}
use Rattle.dual_bound.proofs.Flows.{charges_for}

-- a minute that ends a day is the last of that day
pub last_of_day : (m : ℕ) → minute_of_day (m + 1) ≡ 0 → m ≡ day_end (days_ended m)
last_of_day m e = omega (arith, e)

module _ (t : Tables) (prices : Prices) (charges : AreCharges t prices) (q : ℕ) (w : Weights) (room : HasRoom t q w) where
  -- aircraft of all fleets at the end of a minute
  all_stand : ℕ → ℕ → ℕ
  all_stand s m = sum_below (λ f. stand_of t w f s m) (fleets_in t)

  standing_then : (s m : ℕ) → minute_of_day (m + 1) ≡ 0 → all_stand s m ≡ parked t w s (days_ended m)
  unfolding all_stand parked
  standing_then s m ends = ap (λ n. sum_below (λ f. stand_of t w f s n) (fleets_in t)) (last_of_day m ends)

  at_minute : (s m : ℕ) → s < stations_in t → m < period_of t → (pos (all_stand s m) *ℤ charge_after prices s m) ≤ℤ (pos q *ℤ (pos (parking_limit t s) *ℤ charge_after prices s m))
  unfolding charge_after
  at_minute s m there below = by_test (ends_day m) (λ e. at_end e) (λ e. none e)
    where
      none : (ends_day m) ≡ false → (pos (all_stand s m) *ℤ where_true (ends_day m) (charge_of prices s (days_ended m)))
          ≤ℤ (pos q *ℤ (pos (parking_limit t s) *ℤ where_true (ends_day m) (charge_of prices s (days_ended m))))
      none e = rw e (omega (arith, ints, *ℤ-zero (pos (all_stand s m)), *ℤ-zero (pos (parking_limit t s)), *ℤ-zero (pos q), ap (λ x. pos q *ℤ x) (*ℤ-zero (pos (parking_limit t s)))))

      at_end : (ends_day m) ≡ true → (pos (all_stand s m) *ℤ where_true (ends_day m) (charge_of prices s (days_ended m)))
          ≤ℤ (pos q *ℤ (pos (parking_limit t s) *ℤ where_true (ends_day m) (charge_of prices s (days_ended m))))
      at_end e = rw e (by_limit (parking_of t s) refl)
        where
          d : ℕ
          d = days_ended m

          charge : IsCharge t prices s (days_ended m)
          charge = charges s (days_ended m) there (some_day m (eqb-true _ _ e)) (day_within t m below (eqb-true _ _ e))

          by_limit : (o : Option ℕ) → parking_of t s ≡ o → (pos (all_stand s m) *ℤ charge_of prices s (days_ended m)) ≤ℤ (pos q *ℤ (pos (parking_limit t s) *ℤ charge_of prices s (days_ended m)))
          by_limit None is =
              let free : charge_of prices s (days_ended m) ≡ pos 0 = charge.only_limited is in
              let left = ap (λ z. pos (all_stand s m) *ℤ z) free ∙ *ℤ-zero (pos (all_stand s m)) in
              let right = ap (λ z. pos q *ℤ (pos (parking_limit t s) *ℤ z)) free ∙ ap (λ z. pos q *ℤ z) (*ℤ-zero (pos (parking_limit t s))) ∙ *ℤ-zero (pos q) in
              omega (arith, ints, left, right)
          by_limit (Some limit) is =
              let few = room.each s d limit there (some_day m (eqb-true _ _ e)) (day_within t m below (eqb-true _ _ e)) is in
              let stand = standing_then s m (eqb-true _ _ e) in
              let more = more_times (all_stand s m) (q * limit) (charge_of prices s d) (omega (arith, few, stand)) charge.some in
              let same = ap (λ n. pos q *ℤ (pos n *ℤ charge_of prices s d)) (limit_is is) ∙ sym (*ℤ_assoc (pos q) (pos limit) (charge_of prices s d)) in
              omega (arith, ints, more, same)
            where
              limit_is : parking_of t s ≡ Some limit → parking_limit t s ≡ limit
              limit_is is = ap (λ o. unwrap_or o 0) is

  at_station : (s : ℕ) → s < stations_in t → sum_below_ℤ (λ m. pos (all_stand s m) *ℤ charge_after prices s m) (period_of t) ≤ℤ (pos q *ℤ charges_at t prices s)
  unfolding charges_at
  at_station s there =
      let each = sum_below_ℤ-le (λ m. pos (all_stand s m) *ℤ charge_after prices s m) (λ m. pos q *ℤ (pos (parking_limit t s) *ℤ charge_after prices s m)) (period_of t) (λ m below. at_minute s m there below) in
      subst (λ z. sum_below_ℤ (λ m. pos (all_stand s m) *ℤ charge_after prices s m) (period_of t) ≤ℤ z)
      (sym (*ℤ-sum_below_ℤ (pos q) (λ m. pos (parking_limit t s) *ℤ charge_after prices s m) (period_of t))) each

  -- fleet by fleet or station by station
  by_station : sum_below_ℤ (charges_for t prices w) (fleets_in t) ≡ sum_below_ℤ (λ s. sum_below_ℤ (λ m. pos (all_stand s m) *ℤ charge_after prices s m) (period_of t)) (stations_in t)
  unfolding all_stand
  by_station =
      let paid = λ (f s m : ℕ). pos (stand_of t w f s m) *ℤ charge_after prices s m in
      sum_below_ℤ-swap (λ f s. sum_below_ℤ (paid f s) (period_of t)) (stations_in t) (fleets_in t)
      ∙ sum_below_ℤ-same (λ s. sum_below_ℤ (λ f. sum_below_ℤ (paid f s) (period_of t)) (fleets_in t)) (λ s. sum_below_ℤ (λ m. pos (all_stand s m) *ℤ charge_after prices s m) (period_of t)) (stations_in t)
      (λ s there.
      sum_below_ℤ-swap (λ f m. paid f s m) (period_of t) (fleets_in t)
      ∙ sum_below_ℤ-same (λ m. sum_below_ℤ (λ f. paid f s m) (fleets_in t)) (λ m. pos (all_stand s m) *ℤ charge_after prices s m) (period_of t)
      (λ m below. sum_below-times (λ f. stand_of t w f s m) (charge_after prices s m) (fleets_in t)))

  pub all_charges : sum_below_ℤ (charges_for t prices w) (fleets_in t) ≤ℤ (pos q *ℤ sum_below_ℤ (charges_at t prices) (stations_in t))
  all_charges =
      let each = sum_below_ℤ-le (λ s. sum_below_ℤ (λ m. pos (all_stand s m) *ℤ charge_after prices s m) (period_of t)) (λ s. pos q *ℤ charges_at t prices s) (stations_in t) at_station in
      subst (λ z. z ≤ℤ (pos q *ℤ sum_below_ℤ (charges_at t prices) (stations_in t))) (sym by_station)
      (subst (λ z. sum_below_ℤ (λ s. sum_below_ℤ (λ m. pos (all_stand s m) *ℤ charge_after prices s m) (period_of t)) (stations_in t) ≤ℤ z) (sym (*ℤ-sum_below_ℤ (pos q) (charges_at t prices) (stations_in t))) each)
