-- Charges by the values of parking lines: what an arc is charged that passes the end of a day, and what the limits are charged.
use Rattle.std.proofs.Common.{◌≡◌, ℕ, ◌+◌, ◌<◌, Bool, true, false, ◌==◌, None, ℤ, pos, neg_ℤ, ◌*ℤ◌, refl, sym, ◌∙◌, ap, inl, inr, arith}
use mathlib.Core.Bool.{false≢true}
use Rattle.std.proofs.lemmas.Bool.{cases_lt, eqb-true}
use Rattle.std.proofs.lemmas.Int.{ints}
use lib.IntN.{*ℤ-zero, zero-*ℤ}
use Rattle.sums.specs.Below.{sum_below_ℤ}
use Rattle.sums.proofs.Integers.{*ℤ-neg_ℤ, *ℤ_assoc, neg_ℤ-*ℤ}
use Rattle.sums.proofs.Naturals.{equal_number}
use Rattle.sums.proofs.Tests.{both_true, by_test, parts_true}
use Rattle.sums.proofs.WholeSums.{*ℤ-sum_below_ℤ, sum_below_ℤ-same}
use Rattle.sums.proofs.WholeSwaps.{where_true}
use Rattle.fleet_model.specs.Period.{days_ended, ends_day, minute_of_day}
use Rattle.fleet_model.specs.declared.tables.Tables.{Tables}
use Rattle.fleet_model.specs.Schedule.{day_end, days_in, fleets_in, legs_in, parking_limit, parking_of, period_of, stations_in}
use Rattle.node_aggregate.specs.Nodes.{end_in}
use Rattle.lp_rows.specs.declared.kinds.Line.TheVariants.{Parking}
use Rattle.lp_rows.specs.declared.kinds.Node.{Node}
use Rattle.lp_rows.specs.declared.kinds.Park.{Park}
use Rattle.lp_rows.specs.Entries.{IsPark, passes_day_end}
use Rattle.lp_rows.specs.Layout.{Starts, park_of_number, parking_days}
use Rattle.lp_rows.specs.Points.{node_count, park_count, priced_count}
use Rattle.lp_rows.proofs.LinePlaces.{parking_there}
use Rattle.lp_rows.proofs.ListSums.{all_zero}
use Rattle.lp_rows.proofs.Places.{masked_zero}
use Rattle.dual_bound.specs.Prices.{AreCharges, charge_of}
use Rattle.dual_bound.specs.Worth.{charges_of}
use Rattle.dual_bound.specs.declared.prices.Prices.{Prices}
use Rattle.dual_bound.proofs.Charges.{charge_after, day_within, some_day}
use Rattle.dual_bound.proofs.Parking.{last_of_day}
use Rattle.price_lift.specs.Prices.{AreByLines}
use Rattle.price_lift.proofs.DownColumns.{of_park, of_passed}
use Rattle.price_lift.proofs.Parks.{limited_days, no_park, number_of_park, over_parks, park_is, park_number, park_within, pick_park, same_as}

-- a factor of what is taken off so many times
pub factor_out : (h r a : ℤ) → neg_ℤ (h *ℤ r) *ℤ a ≡ neg_ℤ h *ℤ (r *ℤ a)
factor_out h r a = neg_ℤ-*ℤ (h *ℤ r) a ∙ ap neg_ℤ (*ℤ_assoc h r a) ∙ sym (neg_ℤ-*ℤ h (r *ℤ a))

-- where there is no limit, nothing is charged
pub none_after : (t : Tables) (prices : Prices) → AreCharges t prices → (s m : ℕ) → s < stations_in t → m < period_of t → parking_of t s ≡ None → charge_after prices s m ≡ pos 0
unfolding charge_after
none_after t prices charges s m within period no_limit = by_case (ends_day m)
    (λ e. (charges s (days_ended m) within (some_day m (eqb-true _ _ e)) (day_within t m period (eqb-true _ _ e))).only_limited no_limit)
  where
    by_case : (b : Bool) → (b ≡ true → charge_of prices s (days_ended m) ≡ pos 0) → where_true b (charge_of prices s (days_ended m)) ≡ pos 0
    by_case true none = none refl
    by_case false none = refl

-- the day of a minute that ends it, and no minute ends a day that isn't the last of one
ended_day : (m d : ℕ) → 0 < d → m ≡ day_end d → d ≡ days_ended m
ended_day m d some is = omega (arith, is)

ends_with : (m d : ℕ) → 0 < d → m ≡ day_end d → minute_of_day (m + 1) ≡ 0
ends_with m d some is = omega (arith, is)

module _ (t : Tables) (starts : Starts) (prices : Prices) (value : ℕ → ℤ) (by : AreByLines t starts value prices) (h : ℤ) (y : ℕ → ℤ)
    (scaled : (j : ℕ) → j < priced_count t starts → y (legs_in t + j) ≡ h *ℤ value (legs_in t + j)) where
  abbrev line_of : ℕ → ℕ
  line_of k = legs_in t + (node_count t starts + (fleets_in t + k))

  -- a charge is the value of its line with the other sign
  pub charge_is : (p : Park) → IsPark t p → charge_of prices p.station p.day ≡ neg_ℤ (value (line_of (number_of_park t p)))
  charge_is p known = by.parking (line_of (number_of_park t p)) p (parking_there t starts (number_of_park t p) (park_within t p known) ∙ ap Parking (park_is t p known))

  pub number_is : (p : Park) → IsPark t p → of_park t starts y (number_of_park t p) ≡ neg_ℤ (h *ℤ charge_of prices p.station p.day)
  number_is p known =
      let n = number_of_park t p in
      let charge = ap (λ z. h *ℤ z) (charge_is p known) ∙ *ℤ-neg_ℤ h (value (line_of n)) in
      omega (arith, ints, charge, scaled (node_count t starts + (fleets_in t + n)) (omega (arith, park_within t p known)))

  number_there : (k : ℕ) → k < park_count t → of_park t starts y k ≡ neg_ℤ (h *ℤ charge_of prices (park_of_number t k).station (park_of_number t k).day)
  number_there k below = let at = park_number t k below in ap (of_park t starts y) (sym at.is) ∙ number_is (park_of_number t k) at.known

  -- ---- what an arc is charged that ends with a minute
  module _ (n : Node) (within : n.station < stations_in t) (period : end_in t (starts n.fleet n.station) n.place < period_of t) where
    abbrev m : ℕ
    m = end_in t (starts n.fleet n.station) n.place

    -- the day that the minute ends, where it ends one
    abbrev day_there : Park
    day_there = record { station = n.station; day = days_ended m }

    abbrev passes : Park → Bool
    passes q = passes_day_end t starts q n

    passed : (q : Park) → passes q ≡ true → (q.station ≡ n.station) × (m ≡ day_end q.day)
    passed q e = let both = parts_true (q.station == n.station) (m == day_end q.day) e in (eqb-true q.station n.station both.0, eqb-true m (day_end q.day) both.1)

    none_passed : ((q : Park) → IsPark t q → q.station ≡ n.station → m ≡ day_end q.day → ⊥) → of_passed t starts y n ≡ pos 0
    none_passed never = no_park t passes (of_park t starts y) (λ q known. by_test (passes q) (λ e. let at = passed q e in absurd (never q known at.0 at.1)) (λ e. e))

    at_limit : minute_of_day (m + 1) ≡ 0 → 0 < parking_days t n.station → of_passed t starts y n ≡ neg_ℤ (h *ℤ charge_of prices n.station (days_ended m))
    at_limit ends limited =
        let known : IsPark t day_there = record { station = within; some = some_day m ends; day = omega (arith, day_within t m period ends, limited_days t n.station limited) } in
        pick_park t passes (of_park t starts y) day_there known (both_true (n.station == n.station) (m == day_end (days_ended m)) (equal_number n.station n.station refl) (equal_number m (day_end (days_ended m)) (last_of_day m ends)))
        (λ q is e. let at = passed q e in same_as q day_there (both_true (q.station == n.station) (q.day == days_ended m) (equal_number q.station n.station at.0) (equal_number q.day (days_ended m) (ended_day m q.day is.some at.1))))
        ∙ number_is day_there known

    no_limit : parking_days t n.station ≡ 0 → (d : ℕ) → charge_of prices n.station d ≡ pos 0
    no_limit none d = by.uncharged n.station d (λ known. omega (arith, known.some, known.day, none))

    pub passed_charge : of_passed t starts y n ≡ neg_ℤ (h *ℤ charge_after prices n.station (end_in t (starts n.fleet n.station) n.place))
    unfolding charge_after
    passed_charge = by_test (ends_day m)
        (λ e. elim (cases_lt 0 (parking_days t n.station)) [
          | inl limited ↦ at_limit (eqb-true _ _ e) limited ∙ ap (λ b. neg_ℤ (h *ℤ where_true b (charge_of prices n.station (days_ended m)))) (sym e)
          | inr free ↦
              let none : parking_days t n.station ≡ 0 = omega arith in
              none_passed (λ q known station ends. omega (arith, known.some, known.day, ap (parking_days t) station, none))
              ∙ nothing (where_true (ends_day m) (charge_of prices n.station (days_ended m)))
              (ap (where_true (ends_day m)) (no_limit none (days_ended m)) ∙ masked_zero (ends_day m))
        ])
        (λ e.
        none_passed (λ q known station ends. false≢true (sym e ∙ equal_number _ _ (ends_with m q.day known.some ends)))
        ∙ nothing (where_true (ends_day m) (charge_of prices n.station (days_ended m))) (ap (λ b. where_true b (charge_of prices n.station (days_ended m))) e))
      where
        nothing : (z : ℤ) → z ≡ pos 0 → pos 0 ≡ neg_ℤ (h *ℤ z)
        nothing z none = sym (ap (λ w. neg_ℤ (h *ℤ w)) none ∙ ap neg_ℤ (*ℤ-zero h))

  -- ---- what the limits of all days are charged
  abbrev for_limit : ℕ → ℕ → ℤ
  for_limit s d = neg_ℤ (h *ℤ charge_of prices s d) *ℤ pos (parking_limit t s)

  at_station : (s : ℕ) → s < stations_in t → sum_below_ℤ (λ k. for_limit s (k + 1)) (parking_days t s) ≡ neg_ℤ h *ℤ charges_of t prices s
  at_station s within = elim (cases_lt 0 (parking_days t s)) [
    | inl limited ↦ ap (sum_below_ℤ (λ k. for_limit s (k + 1))) (limited_days t s limited) ∙ in_days
    | inr free ↦
        let none : parking_days t s ≡ 0 = omega arith in
        let nothing = all_zero (λ k. for_limit s (k + 1)) (days_in t) (λ k below. ap (λ z. neg_ℤ (h *ℤ z) *ℤ pos (parking_limit t s)) (by.uncharged s (k + 1) (λ known. omega (arith, known.day, none))) ∙ ap (λ z. neg_ℤ z *ℤ pos (parking_limit t s)) (*ℤ-zero h) ∙ zero-*ℤ (pos (parking_limit t s))) in
        ap (sum_below_ℤ (λ k. for_limit s (k + 1))) none ∙ sym nothing ∙ in_days
  ]
    where
      in_days : sum_below_ℤ (λ k. for_limit s (k + 1)) (days_in t) ≡ neg_ℤ h *ℤ charges_of t prices s
      in_days =
          sum_below_ℤ-same (λ k. for_limit s (k + 1)) (λ k. neg_ℤ h *ℤ (charge_of prices s (k + 1) *ℤ pos (parking_limit t s))) (days_in t) (λ k below. factor_out h (charge_of prices s (k + 1)) (pos (parking_limit t s)))
          ∙ sym (*ℤ-sum_below_ℤ (neg_ℤ h) (λ k. charge_of prices s (k + 1) *ℤ pos (parking_limit t s)) (days_in t))

  pub limits_charged : sum_below_ℤ (λ k. of_park t starts y k *ℤ pos (parking_limit t (park_of_number t k).station)) (park_count t) ≡ neg_ℤ h *ℤ sum_below_ℤ (charges_of t prices) (stations_in t)
  limits_charged =
      sum_below_ℤ-same (λ k. of_park t starts y k *ℤ pos (parking_limit t (park_of_number t k).station)) (λ k. for_limit (park_of_number t k).station (park_of_number t k).day) (park_count t)
      (λ k below. ap (λ z. z *ℤ pos (parking_limit t (park_of_number t k).station)) (number_there k below))
      ∙ over_parks t (λ p. for_limit p.station p.day)
      ∙ sum_below_ℤ-same (λ s. sum_below_ℤ (λ k. for_limit s (k + 1)) (parking_days t s)) (λ s. neg_ℤ h *ℤ charges_of t prices s) (stations_in t) (λ s within. at_station s within)
      ∙ sym (*ℤ-sum_below_ℤ (neg_ℤ h) (charges_of t prices) (stations_in t))
