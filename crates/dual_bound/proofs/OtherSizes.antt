-- Prices by tables with another number of aircraft of one fleet: they are proper there too, and their worth differs by the
-- rents of that fleet alone.
use mathlib.Core.Path.{fun_ext}
use Rattle.std.proofs.Common.{◌≡◌, ◌≢◌, ℕ, zero, suc, ◌+◌, ◌-◌, ◌*◌, ◌<◌, ◌≤◌, List, Option, slice_index_or, ℤ, pos, ◌+ℤ◌, ◌-ℤ◌, ◌*ℤ◌, ◌≤ℤ◌, sym, ◌∙◌, ap, ap₂, subst, inl, inr, arith}
use Rattle.std.specs.Prelude.{unwrap_or}
use Rattle.std.proofs.lemmas.Bool.{cases_lt}
use Rattle.std.proofs.lemmas.Int.{ints}
use Rattle.frac_row.specs.Ratio.{IsCeiling}
use Rattle.sums.specs.Below.{sum_below_ℤ}
use Rattle.sums.proofs.WholeSums.{sum_below_ℤ-same}
use Rattle.fleet_model.specs.declared.limits.TheConstants.{MAX_AIRCRAFT}
use Rattle.fleet_model.specs.declared.parts.Fleet.{Fleet}
use Rattle.fleet_model.specs.declared.parts.Leg.{Leg}
use Rattle.fleet_model.specs.declared.parts.Pair.{Pair}
use Rattle.fleet_model.specs.declared.tables.Tables.{Tables}
use Rattle.fleet_model.specs.Kept.{Domains}
use Rattle.fleet_model.specs.OtherSizes.{IsOtherSize}
use Rattle.fleet_model.specs.Sizes.{HoldsBy}
use Rattle.fleet_model.specs.declared.sizes.Sizes.{Sizes}
use Rattle.fleet_model.specs.Schedule.{choices_in, days_in, fleets_in, leg_on, legs_in, no_leg, parking_limit, period_of, stations_in}
use Rattle.fleet_model.proofs.BySizes.{holds_too}
use Rattle.fleet_model.proofs.OtherSizes.{aircraft_elsewhere, aircraft_there, choices_same, cost_same, days_same, departure_same, fleet_by_same, fleets_same, laps_same, legs_same, parking_same, period_same, ready_same, stations_same}
use Rattle.dual_bound.specs.Prices.{ArePrices, charge_of, price_of, rent_of, with_charge}
use Rattle.dual_bound.specs.Sizes.{IsUpTo}
use Rattle.dual_bound.specs.Worth.{charges_of, least_below, leg_worth, less_charges, pair_worth, rents_of, worth_of}
use Rattle.dual_bound.specs.declared.prices.Prices.{Prices}
use Rattle.dual_bound.proofs.Numbers.{held, is_held, many, taken}

-- what one term of a sum is more, the sum is more
sum_more : (f g : ℕ → ℤ) (n place : ℕ) (more : ℤ) → place < n → f place ≡ g place +ℤ more → ((k : ℕ) → k < n → k ≢ place → f k ≡ g k)
    → sum_below_ℤ f n ≡ sum_below_ℤ g n +ℤ more
sum_more f g zero place more within here others = absurd (omega arith)
sum_more f g (suc n) place more within here others = elim (cases_lt place n) [
  | inl earlier ↦
      let last : f n ≡ g n = others n (omega arith) (omega arith) in
      omega (arith, ints, sum_more f g n place more earlier here (λ k below other. others k (omega arith) other), last)
  | inr later ↦
      let last : place ≡ n = omega arith in
      let at_last : f n ≡ g n +ℤ more = subst (λ k. f k ≡ g k +ℤ more) last here in
      omega (arith, ints, sum_below_ℤ-same f g n (λ k below. others k (omega arith) (omega arith)), at_last)
]

module _ (t : Tables) (fleet count : ℕ) (u : Tables) (is : IsOtherSize t fleet count u) where
  pub prices_same : (prices : Prices) → ArePrices t prices → ArePrices u prices
  prices_same prices was = record {
    scale = was.scale;
    within = record {
      rents = λ f below. was.within.rents f (known f below);
      each = λ f s m below there early. was.within.each f s m (known f below) (at s there) (subst (λ n. m < n) minutes early);
      charges = λ s d there some within.
          let charge = was.within.charges s d (at s there) some (subst (λ n. d ≤ n) (days_same t fleet count u is) within) in
          record { some = charge.some; within = charge.within; only_limited = λ none. charge.only_limited (sym (parking_same t fleet count u is s) ∙ none) };
    };
    fall = record { each = λ f s m below there early. was.fall.each f s m (known f below) (at s there) (subst (λ n. m + 1 < n) minutes early) };
    rise = record { each = λ f s below there. subst (λ n. price_of prices f s 0 ≤ℤ with_charge prices s (n - 1) (price_of prices f s (n - 1) +ℤ rent_of prices f)) (sym minutes) (was.rise.each f s (known f below) (at s there)) };
  }
    where
      minutes : period_of u ≡ period_of t
      minutes = period_same t fleet count u is

      known : (f : ℕ) → f < fleets_in u → f < fleets_in t
      known f below = subst (λ n. f < n) (fleets_same t fleet count u is) below

      at : (s : ℕ) → s < stations_in u → s < stations_in t
      at s there = subst (λ n. s < n) (stations_same t fleet count u is) there

  module _ (keeps : Domains) (prices : Prices) (k : ℕ) where
    pair_worth_same : (p : Pair) → pair_worth u prices k p ≡ pair_worth t prices k p
    pair_worth_same p =
        let cost = ap (λ (f : Pair → Option ℤ). f p) (cost_same t fleet count u is) in
        let by = ap (λ (f : Pair → ℕ). f p) (fleet_by_same t fleet count u is) in
        let leg = ap (λ (legs : List Leg). slice_index_or legs p.leg no_leg) is.legs in
        let departs = ap (λ (f : Pair → ℕ). f p) (departure_same t fleet count u is) in
        let ready = ap (λ (f : Pair → ℕ). f p) (ready_same t fleet count u is) in
        let laps = ap (λ (f : Pair → ℕ). f p) (laps_same t fleet count u is) in
        let fleets = fleets_same t fleet count u is in
        cc

    leg_worth_same : (l : ℕ) → leg_worth u keeps prices k l ≡ leg_worth t keeps prices k l
    unfolding leg_worth
    leg_worth_same l =
        ap (λ n. unwrap_or (least_below (λ c. keeps (leg_on l c)) (λ c. pair_worth u prices k (leg_on l c)) n) (pos 0)) (choices_same t fleet count u is l)
        ∙ ap (λ (worth : Pair → ℤ). unwrap_or (least_below (λ c. keeps (leg_on l c)) (λ c. worth (leg_on l c)) (choices_in t l)) (pos 0)) (fun_ext pair_worth_same)

    legs_worth_same : sum_below_ℤ (leg_worth u keeps prices k) (legs_in u) ≡ sum_below_ℤ (leg_worth t keeps prices k) (legs_in t)
    legs_worth_same =
        ap (sum_below_ℤ (leg_worth u keeps prices k)) (legs_same t fleet count u is)
        ∙ sum_below_ℤ-same (leg_worth u keeps prices k) (leg_worth t keeps prices k) (legs_in t) (λ l below. leg_worth_same l)

    rents_other : fleet < fleets_in t → sum_below_ℤ (rents_of t prices) (fleets_in t) +ℤ (rent_of prices fleet *ℤ pos count) ≡ sum_below_ℤ (rents_of u prices) (fleets_in u) +ℤ rents_of t prices fleet
    rents_other known =
        let more = sum_more (rents_of t prices) (rents_of u prices) (fleets_in t) fleet (rents_of t prices fleet -ℤ (rent_of prices fleet *ℤ pos count)) known here elsewhere in
        let same = ap (sum_below_ℤ (rents_of u prices)) (fleets_same t fleet count u is) in
        omega (arith, ints, more, same)
      where
        here : rents_of t prices fleet ≡ rents_of u prices fleet +ℤ (rents_of t prices fleet -ℤ (rent_of prices fleet *ℤ pos count))
        here = let there = ap (λ n. rent_of prices fleet *ℤ pos n) (aircraft_there t fleet count u is known) in omega (arith, ints, there)

        elsewhere : (f : ℕ) → f < fleets_in t → f ≢ fleet → rents_of t prices f ≡ rents_of u prices f
        elsewhere f below other = ap (λ (x : Fleet). rent_of prices f *ℤ pos x.aircraft) (sym (aircraft_elsewhere t fleet count u is f other))

    charges_same : sum_below_ℤ (charges_of u prices) (stations_in u) ≡ sum_below_ℤ (charges_of t prices) (stations_in t)
    charges_same =
        ap (sum_below_ℤ (charges_of u prices)) (stations_same t fleet count u is)
        ∙ sum_below_ℤ-same (charges_of u prices) (charges_of t prices) (stations_in t) (λ s below. station s)
      where
        station : (s : ℕ) → charges_of u prices s ≡ charges_of t prices s
        station s =
            ap (λ o. sum_below_ℤ (λ d. charge_of prices s (d + 1) *ℤ pos (unwrap_or o 0)) (days_in u)) (parking_same t fleet count u is s)
            ∙ ap (sum_below_ℤ (λ d. charge_of prices s (d + 1) *ℤ pos (parking_limit t s))) (days_same t fleet count u is)

    -- the fleet's rents are for so many aircraft in the place of its own
    pub worth_other : fleet < fleets_in t → worth_of u keeps prices k ≡ (worth_of t keeps prices k +ℤ rents_of t prices fleet) -ℤ (rent_of prices fleet *ℤ pos count)
    unfolding worth_of less_charges
    worth_other known = omega (arith, ints, legs_worth_same, rents_other known, charges_same)

    -- .. as they are added up
    pub worth_sum : fleet < fleets_in t → (worth own rents : ℤ) → IsUpTo (7 * legs_in t + MAX_AIRCRAFT * fleets_in t + 70000 * stations_in t) worth → IsUpTo MAX_AIRCRAFT own → IsUpTo MAX_AIRCRAFT rents
        → worth ≡ worth_of t keeps prices k → own ≡ rents_of t prices fleet → rents ≡ rent_of prices fleet *ℤ pos count
        → held (held (held worth +ℤ held own) -ℤ held rents) ≡ worth_of u keeps prices k
    worth_sum known worth own rents small_worth small_own small_rents worth_is own_is rents_is =
        let legs = t.in_range.legs_fit.few in
        let fleets = t.in_range.fleets_fit.few in
        let stations = t.in_range.stations_fit.few in
        let few : (7 * legs_in t + MAX_AIRCRAFT * fleets_in t + 70000 * stations_in t) + MAX_AIRCRAFT + MAX_AIRCRAFT ≤ many = omega (arith, legs, fleets, stations) in
        let both : IsUpTo ((7 * legs_in t + MAX_AIRCRAFT * fleets_in t + 70000 * stations_in t) + MAX_AIRCRAFT) (worth +ℤ own) = record { no_less = omega (arith, ints, small_worth, small_own); no_more = omega (arith, ints, small_worth, small_own) } in
        ap₂ (λ x y. held (held (x +ℤ y) -ℤ held rents)) (is_held _ worth small_worth (omega (arith, few))) (is_held MAX_AIRCRAFT own small_own (omega arith))
        ∙ taken _ MAX_AIRCRAFT (worth +ℤ own) rents _ _ both small_rents few (ap₂ (λ x y. x +ℤ y) worth_is own_is) rents_is
        ∙ sym (worth_other known)

-- ---- by any sizes
-- a worth that is rounded up
pub ceiling_by : (t : Tables) (by : Sizes) (keeps : Domains) (prices : Prices) (worth least : ℤ) → HoldsBy t by (λ u. worth ≡ worth_of u keeps prices 1) → IsCeiling worth prices.scale least
    → HoldsBy t by (λ u. IsCeiling (worth_of u keeps prices 1) prices.scale least)
ceiling_by t by keeps prices worth least holds is =
    holds_too t by (λ u. worth ≡ worth_of u keeps prices 1) (λ u. IsCeiling (worth_of u keeps prices 1) prices.scale least) (λ u e. subst (λ w. IsCeiling w prices.scale least) e is) holds
