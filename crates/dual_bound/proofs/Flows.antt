-- What a fleet's flights are worth by prices: no more than the rent of the aircraft that it uses, and the charges for those
-- that stand at the ends of days.
use Rattle.std.proofs.Common.{◌≡◌, ℕ, suc, ◌+◌, ◌*◌, ◌<◌, ◌≤◌, Bool, ◌==◌, nat_le, ℤ, pos, ◌+ℤ◌, ◌-ℤ◌, ◌*ℤ◌, ◌≤ℤ◌, sym, ◌∙◌, ap, subst, arith}
use Rattle.std.proofs.lemmas.Int.{ints}
use lib.IntN.{*ℤ_comm}
use Rattle.sums.specs.Below.{sum_below, sum_below_ℤ}
use Rattle.sums.proofs.Integers.{*ℤ-+ℤ, *ℤ--ℤ, *ℤ_assoc, +ℤ-*ℤ}
use Rattle.sums.proofs.Orders.{more_times, sum_below_ℤ-le, times_le}
use Rattle.sums.proofs.Summation.{by_parts_rising, legs_priced, priced_by}
use Rattle.sums.proofs.WholeSums.{sum_below_ℤ-same, sum_below_ℤ--ℤ}
use Rattle.sums.proofs.WholeSwaps.{over_places, sum_below-times, sum_below_ℤ-+ℤ}
use Rattle.fleet_model.specs.declared.parts.Pair.{Pair}
use Rattle.fleet_model.specs.declared.tables.Tables.{Tables}
use Rattle.fleet_model.specs.Counts.{Weights, arrived, departed}
use Rattle.fleet_model.specs.Schedule.{departures_in, fleet_by, fleets_in, last_of, leg_at, leg_of, no_leg, pair_on, period_of, stations_in}
use Rattle.fleet_model.specs.Times.{busy_minutes, departure, laps_of, ready_minute}
use Rattle.fleet_model.specs.Use.{IsBalanced, laps_at, laps_flown, need_of, stand_of, used_of}
use Rattle.fleet_model.proofs.Choices.{by_fleet, of_departure}
use Rattle.fleet_model.proofs.PeriodMinutes.{by_last, departs_on, in_period, last_in, some_minutes}
use Rattle.fleet_model.proofs.UseLaws.{need_suffices}
use Rattle.dual_bound.specs.Prices.{ArePrices, price_of, rent_of, with_charge}
use Rattle.dual_bound.specs.declared.prices.Prices.{Prices}
use Rattle.dual_bound.proofs.Charges.{charge_after, with_charge_is}

-- what a flown pair adds to the worth beside its cost
abbrev pub flow_worth : Tables → Prices → Pair → ℤ
flow_worth t prices p =
    (price_of prices (fleet_by t p) (leg_of t p.leg).from (departure t p) -ℤ price_of prices (fleet_by t p) (leg_of t p.leg).to (ready_minute t p))
    +ℤ (rent_of prices (fleet_by t p) *ℤ pos (laps_of t p))

-- at the end of the period, where what comes is what leaves
at_the_end : (need count stand : ℕ) (out back first last rent charge paid : ℤ) → stand ≡ need → first ≤ℤ (last +ℤ rent +ℤ charge)
    → (out +ℤ (pos need *ℤ last) +ℤ (pos count *ℤ last)) ≤ℤ (back +ℤ (pos need *ℤ first) +ℤ (pos count *ℤ last) +ℤ paid)
    → out ≤ℤ (back +ℤ (pos need *ℤ rent) +ℤ (paid +ℤ (pos stand *ℤ charge)))
at_the_end need count stand out back first last rent charge paid same rise h =
    omega (arith, ints, times_le need first (last +ℤ rent +ℤ charge) rise, *ℤ-+ℤ (pos need) (last +ℤ rent) charge, *ℤ-+ℤ (pos need) last rent, ap (λ n. pos n *ℤ charge) same)

module _ (t : Tables) (prices : Prices) (proper : ArePrices t prices) (w : Weights) (balanced : IsBalanced t w) (f : ℕ) (known : f < fleets_in t) where
  pair : ℕ → Pair
  pair d = pair_on t d f

  leaves : ℕ → ℕ → Bool
  leaves s d = (leg_of t (pair d).leg).from == s

  lands : ℕ → ℕ → Bool
  lands s d = (leg_of t (pair d).leg).to == s

  departs_at : ℕ → ℕ
  departs_at d = departure t (pair d)

  ready_at : ℕ → ℕ
  ready_at d = ready_minute t (pair d)

  weight : ℕ → ℕ
  weight d = w (pair d)

  out_of : ℕ → ℕ → ℤ
  out_of s m = sum_below_ℤ (priced_by (leaves s) departs_at weight (price_of prices f s) m) (departures_in t)

  back_to : ℕ → ℕ → ℤ
  back_to s m = sum_below_ℤ (priced_by (lands s) ready_at weight (price_of prices f s) m) (departures_in t)

  -- what is paid for an aircraft that stands there at the end of a minute
  standing : ℕ → ℕ → ℤ
  standing s m = pos (stand_of t w f s m) *ℤ charge_after prices s m

  rises : (s m : ℕ) → s < stations_in t → suc m < period_of t → price_of prices f s (suc m) ≤ℤ (price_of prices f s m +ℤ charge_after prices s m)
  rises s m within below =
      let next : m + 1 ≡ suc m = omega arith in
      let rise = subst (λ n. price_of prices f s n ≤ℤ with_charge prices s m (price_of prices f s m)) next (proper.fall.each f s m known within (omega arith)) in
      omega (arith, ints, rise, with_charge_is prices s m (price_of prices f s m))

  over_end : (s : ℕ) → s < stations_in t → price_of prices f s 0 ≤ℤ (price_of prices f s (last_of t) +ℤ rent_of prices f +ℤ charge_after prices s (last_of t))
  over_end s within =
      omega (arith, ints, proper.rise.each f s known within, with_charge_is prices s (last_of t) (price_of prices f s (last_of t) +ℤ rent_of prices f))

  -- at the period's end as many stand as are needed
  need_stands : (s : ℕ) → s < stations_in t → stand_of t w f s (last_of t) ≡ need_of t w f s
  unfolding stand_of
  need_stands s within = omega (arith, balanced.each f s known within)

  last_next : suc (last_of t) ≡ period_of t
  last_next = omega (arith, some_minutes t)

  -- at a station departures are worth no more than arrivals, the rent of the need and the charges
  at_station : (s : ℕ) → s < stations_in t → out_of s (last_of t) ≤ℤ (back_to s (last_of t) +ℤ (pos (need_of t w f s) *ℤ rent_of prices f) +ℤ sum_below_ℤ (standing s) (period_of t))
  unfolding departed arrived out_of back_to leaves lands departs_at ready_at weight standing stand_of pair
  at_station s within =
      let bound = by_parts_rising (departed t w f s) (arrived t w f s) (out_of s) (back_to s) (price_of prices f s) (charge_after prices s) (need_of t w f s) (period_of t)
      (legs_priced (leaves s) departs_at weight (price_of prices f s) (departures_in t)) (legs_priced (lands s) ready_at weight (price_of prices f s) (departures_in t))
      (need_suffices t w f s).each (λ m below. rises s m within below) (last_of t) (last_in t) in
      let end = at_the_end (need_of t w f s) (departed t w f s (last_of t)) (stand_of t w f s (last_of t)) (out_of s (last_of t)) (back_to s (last_of t)) (price_of prices f s 0) (price_of prices f s (last_of t)) (rent_of prices f)
      (charge_after prices s (last_of t)) (sum_below_ℤ (standing s) (last_of t)) (need_stands s within) (over_end s within) (rw (balanced.each f s known within) at bound) in
      omega (arith, ints, end, ap (sum_below_ℤ (standing s)) (sym last_next))

  departing : ℕ → ℤ
  departing d = pos (w (pair d)) *ℤ price_of prices f (leg_of t (pair d).leg).from (departure t (pair d))

  arriving : ℕ → ℤ
  arriving d = pos (w (pair d)) *ℤ price_of prices f (leg_of t (pair d).leg).to (ready_minute t (pair d))

  renting : ℕ → ℤ
  renting d = pos (laps_at t w f d) *ℤ rent_of prices f

  -- over all stations each departure is one once, and its arrival too
  all_departing : sum_below_ℤ (λ s. out_of s (last_of t)) (stations_in t) ≡ sum_below_ℤ departing (departures_in t)
  unfolding out_of leaves departs_at weight departing pair
  all_departing = over_places (λ d. (leg_of t (pair d).leg).from) (λ d. nat_le (departs_at d) (last_of t)) (λ d s. pos (w (pair d)) *ℤ price_of prices f s (departure t (pair d))) (stations_in t) (departures_in t)
      (record { each = λ d below. (t.in_range.legs_fit.each (leg_at t d) no_leg (of_departure t d below)).from })
      (λ d below. by_last t (departs_at d) (departs_on t d f below))

  all_arriving : sum_below_ℤ (λ s. back_to s (last_of t)) (stations_in t) ≡ sum_below_ℤ arriving (departures_in t)
  unfolding back_to lands ready_at weight arriving pair
  all_arriving = over_places (λ d. (leg_of t (pair d).leg).to) (λ d. nat_le (ready_at d) (last_of t)) (λ d s. pos (w (pair d)) *ℤ price_of prices f s (ready_minute t (pair d))) (stations_in t) (departures_in t)
      (record { each = λ d below. (t.in_range.legs_fit.each (leg_at t d) no_leg (of_departure t d below)).to })
      (λ d below. by_last t (ready_at d) (in_period t (departure t (pair d) + busy_minutes t (pair d))))

  -- departures are worth no more than arrivals, the rent of the need at all stations and the charges
  at_stations : sum_below_ℤ departing (departures_in t)
      ≤ℤ (sum_below_ℤ arriving (departures_in t) +ℤ (pos (sum_below (need_of t w f) (stations_in t)) *ℤ rent_of prices f) +ℤ sum_below_ℤ (λ s. sum_below_ℤ (standing s) (period_of t)) (stations_in t))
  at_stations =
      let each = sum_below_ℤ-le (λ s. out_of s (last_of t)) (λ s. back_to s (last_of t) +ℤ (pos (need_of t w f s) *ℤ rent_of prices f) +ℤ sum_below_ℤ (standing s) (period_of t)) (stations_in t) at_station in
      let added = sum_below_ℤ-+ℤ (λ s. back_to s (last_of t)) (λ s. pos (need_of t w f s) *ℤ rent_of prices f) (stations_in t) in
      let more = sum_below_ℤ-+ℤ (λ s. back_to s (last_of t) +ℤ (pos (need_of t w f s) *ℤ rent_of prices f)) (λ s. sum_below_ℤ (standing s) (period_of t)) (stations_in t) in
      let needed = sum_below-times (need_of t w f) (rent_of prices f) (stations_in t) in
      omega (arith, ints, each, added, more, needed, all_departing, all_arriving)

  -- a departure's part of the flow, by departure, arrival and rent
  part_of_flow : (d : ℕ) → d < departures_in t → pos (w (pair d)) *ℤ flow_worth t prices (pair d) ≡ (departing d -ℤ arriving d) +ℤ renting d
  unfolding departing arriving renting pair
  part_of_flow d below =
      ap (λ n. pos (w (pair d)) *ℤ ((price_of prices n (leg_of t (pair d).leg).from (departure t (pair d)) -ℤ price_of prices n (leg_of t (pair d).leg).to (ready_minute t (pair d))) +ℤ (rent_of prices n *ℤ pos (laps_of t (pair d)))))
      (by_fleet t d f below known)
      ∙ parts (w (pair d)) (laps_of t (pair d)) (price_of prices f (leg_of t (pair d).leg).from (departure t (pair d))) (price_of prices f (leg_of t (pair d).leg).to (ready_minute t (pair d))) (rent_of prices f)
    where
      parts : (n k : ℕ) (p q r : ℤ) → pos n *ℤ ((p -ℤ q) +ℤ (r *ℤ pos k)) ≡ ((pos n *ℤ p) -ℤ (pos n *ℤ q)) +ℤ (pos (n * k) *ℤ r)
      parts n k p q r =
          omega (arith, ints, *ℤ-+ℤ (pos n) (p -ℤ q) (r *ℤ pos k), *ℤ--ℤ (pos n) p q, ap (λ x. pos n *ℤ x) (*ℤ_comm r (pos k)), *ℤ_assoc (pos n) (pos k) r)

  all_rent : sum_below_ℤ renting (departures_in t) ≡ pos (sum_below (laps_at t w f) (departures_in t)) *ℤ rent_of prices f
  unfolding renting
  all_rent = sum_below-times (laps_at t w f) (rent_of prices f) (departures_in t)

  -- what the fleet's flights add is no more than the rent of the aircraft that it uses and the charges for its aircraft
  rent_of_use : sum_below_ℤ (λ d. pos (w (pair_on t d f)) *ℤ flow_worth t prices (pair_on t d f)) (departures_in t)
      ≤ℤ ((pos (used_of t w f) *ℤ rent_of prices f) +ℤ sum_below_ℤ (λ s. sum_below_ℤ (λ m. pos (stand_of t w f s m) *ℤ charge_after prices s m) (period_of t)) (stations_in t))
  unfolding used_of laps_flown pair standing
  rent_of_use =
      let same = sum_below_ℤ-same (λ d. pos (w (pair d)) *ℤ flow_worth t prices (pair d)) (λ d. (departing d -ℤ arriving d) +ℤ renting d) (departures_in t) part_of_flow in
      let added = sum_below_ℤ-+ℤ (λ d. departing d -ℤ arriving d) renting (departures_in t) in
      let apart = sum_below_ℤ--ℤ departing arriving (departures_in t) in
      let used = +ℤ-*ℤ (pos (sum_below (need_of t w f) (stations_in t))) (pos (sum_below (laps_at t w f) (departures_in t))) (rent_of prices f) in
      omega (arith, ints, same, added, apart, all_rent, used, at_stations)

-- the charges for a fleet's aircraft that stand at the ends of days
abbrev pub charges_for : Tables → Prices → Weights → ℕ → ℤ
charges_for t prices w f = sum_below_ℤ (λ s. sum_below_ℤ (λ m. pos (stand_of t w f s m) *ℤ charge_after prices s m) (period_of t)) (stations_in t)

-- and so no more than the rent of the aircraft that it has, where it uses no more
pub fleet_bound : (t : Tables) (prices : Prices) → ArePrices t prices → (w : Weights) → IsBalanced t w → (f most : ℕ) → f < fleets_in t → used_of t w f ≤ most
    → sum_below_ℤ (λ d. pos (w (pair_on t d f)) *ℤ flow_worth t prices (pair_on t d f)) (departures_in t) ≤ℤ ((pos most *ℤ rent_of prices f) +ℤ charges_for t prices w f)
fleet_bound t prices proper w balanced f most known enough =
    omega (arith, ints, rent_of_use t prices proper w balanced f known, more_times (used_of t w f) most (rent_of prices f) enough (proper.within.rents f known).some)
