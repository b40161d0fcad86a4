-- Prices by the nodes whose lines weigh no column above its cost rise over arcs that stay by charges at most, and are worth what
-- the right sides come to.
use Rattle.std.proofs.Common.{◌≡◌, ◌≢◌, ℕ, ◌+◌, ◌<◌, ◌≤◌, Bool, true, false, ◌==◌, length, get_or, None, is_none, is_some, if◌then◌else◌, ℤ, pos, neg_ℤ, ◌+ℤ◌, ◌-ℤ◌, ◌*ℤ◌, ◌<ℤ◌, ◌≤ℤ◌, unsigned_abs, refl, sym, ◌∙◌, ap, subst, inl, inr, arith, pos_of_ne-zero}
use Rattle.std.proofs.lemmas.Bool.{cases_lt, eqb-true, le-ltb, ne_eqb}
use Rattle.std.proofs.lemmas.Bool.Decides.{nat_tests}
use Rattle.std.proofs.lemmas.Int.{ints}
use lib.IntN.{*ℤ-zero}
use Rattle.sums.specs.Below.{sum_below_ℤ}
use Rattle.sums.proofs.Integers.{*ℤ-+ℤ, *ℤ--ℤ, *ℤ-neg_ℤ, *ℤ_assoc, neg_ℤ-*ℤ}
use Rattle.sums.proofs.WholeSums.{*ℤ-sum_below_ℤ, sum_below_ℤ-same}
use Rattle.sums.proofs.WholeSwaps.{sum_below_ℤ-one, where_true}
use Rattle.sums.proofs.Orders.{sum_below_ℤ-le}
use Rattle.sums.proofs.Signs.{factor_le_cancel, factor_at_least_0}
use Rattle.sums.proofs.Naturals.{empty_is, equal_number}
use Rattle.sums.proofs.Tests.{same_tests}
use Rattle.fleet_model.specs.declared.tables.Tables.{Tables}
use Rattle.fleet_model.specs.Kept.{Domains, IsBare}
use Rattle.fleet_model.specs.Schedule.{IsFlown, IsPair, choices_in, days_in, fleet_by, fleet_of, fleets_in, last_of, leg_of, leg_on, legs_in, no_leg, stations_in}
use Rattle.fleet_model.specs.Times.{busy_minutes, departure, laps_of, ready_minute}
use Rattle.fleet_model.specs.declared.parts.Pair.{Pair}
use Rattle.fleet_model.proofs.Choices.{of_flown}
use Rattle.fleet_model.proofs.PeriodMinutes.{departs_in, in_period}
use Rattle.node_aggregate.specs.Nodes.{HappensAt, end_in}
use Rattle.node_aggregate.proofs.EventsAmong.{departs_at, ready_at}
use Rattle.node_aggregate.proofs.Starts.{end_within, start_within}
use Rattle.lp_rows.specs.declared.kinds.Column.{Column}
use Rattle.lp_rows.specs.declared.kinds.Node.{Node}
use Rattle.lp_rows.specs.declared.kinds.Park.{Park}
use Rattle.lp_rows.specs.declared.kinds.Column.TheVariants.{Flight, Ground, Room, Slack}
use Rattle.lp_rows.specs.declared.kinds.Line.TheVariants.{Balance}
use Rattle.lp_rows.specs.Entries.{IsNode, IsPark, column_cost, entry_of, is_in_node, place_after, right_side_of}
use Rattle.lp_rows.specs.Layout.{IsNetwork, Starts, arc_stays, moment_at, node_of_place, parking_days}
use Rattle.lp_rows.specs.Points.{node_count, priced_count}
use Rattle.lp_rows.proofs.Places.{IsKept}
use Rattle.dual_bound.specs.Prices.{AreWithin, IsCharge, charge_of, max_price, price_of, rent_of}
use Rattle.dual_bound.specs.Worth.{charges_of, cost_units, leg_worth, less_charges, pair_worth, rents_of, worth_of}
use Rattle.dual_bound.specs.declared.prices.Prices.{Prices}
use Rattle.dual_bound.proofs.Charges.{charge_after, flown_worth, not_flown}
use Rattle.island_prices.specs.Arcs.{AreByNodes}
use Rattle.island_prices.proofs.ArcSteps.{rise_at_last, rise_inside}
use Rattle.price_lift.specs.Prices.{AreByLines}
use Rattle.price_lift.proofs.DownColumns.{at_minute, down, down_flight, down_ground, down_left_out, down_room, down_sides, down_slack, of_fleet, of_node}
use Rattle.price_lift.proofs.ChargedArcs.{DoRiseByCharges}
use Rattle.price_lift.proofs.LeastBounds.{below_unwrapped}
use Rattle.price_lift.proofs.ParkCharges.{charge_is, factor_out, limits_charged, number_is, passed_charge}
use Rattle.price_lift.proofs.Parks.{limited_days, number_of_park, park_within}
use Rattle.lp_rows.proofs.LinePlaces.{balance_there, before, count_there, node_there, node_within}
use Rattle.price_lift.proofs.Minutes.{IsAtPlace, Rise, at_place, in_node, later, nodes_rise, one_place, some_place, test_of}

times_zero : (h q : ℤ) (k : ℕ) → h *ℤ (pos k *ℤ q *ℤ pos 0) ≡ pos 0
times_zero h q k = ap (λ z. h *ℤ z) (*ℤ-zero (pos k *ℤ q)) ∙ *ℤ-zero h

-- what a pair is worth by h times its prices
gather : (h c a b r l : ℤ) (y s : ℤ) → s ≡ y +ℤ (((h *ℤ b) -ℤ (h *ℤ a)) +ℤ (neg_ℤ (h *ℤ r) *ℤ l)) → s ≤ℤ (h *ℤ c) → y ≤ℤ (h *ℤ (c +ℤ (a -ℤ b) +ℤ (r *ℤ l)))
gather h c a b r l y s e le =
    let all = *ℤ-+ℤ h (c +ℤ (a -ℤ b)) (r *ℤ l) in
    let front = *ℤ-+ℤ h c (a -ℤ b) in
    let fall = *ℤ--ℤ h a b in
    let rent = neg_ℤ-*ℤ (h *ℤ r) l ∙ ap neg_ℤ (*ℤ_assoc h r l) in
    omega (arith, ints, e, le, all, front, fall, rent)

-- what a pair is worth that leaves its leg out
left_out_worth : (t : Tables) (prices : Prices) (k : ℕ) (p : Pair) → IsPair t p → fleets_in t ≤ fleet_by t p → pair_worth t prices k p ≡ pos k *ℤ prices.scale *ℤ cost_units t p
left_out_worth t prices k p pair out =
    let none = le-ltb (fleet_by t p) (fleets_in t) out in
    omega (arith, ints, not_flown t p (price_of prices (fleet_by t p) (leg_of t p.leg).from (departure t p) -ℤ price_of prices (fleet_by t p) (leg_of t p.leg).to (ready_minute t p)) pair none, not_flown t p (rent_of prices (fleet_by t p) *ℤ pos (laps_of t p)) pair none)

-- an arc without a moment stays
staying : (t : Tables) (keeps : Domains) (starts : Starts) (n : Node) → moment_at t keeps starts n ≡ None → arc_stays t keeps starts n ≡ true
unfolding arc_stays
staying t keeps starts n none = ap is_none none

module _ (t : Tables) (keeps : Domains) (starts : Starts) (network : IsNetwork t keeps starts) (prices : Prices) (value : ℕ → ℤ) (by : AreByLines t starts value prices)
    (h : ℤ) (above : pos 0 <ℤ h) (y : ℕ → ℤ) (scaled : (j : ℕ) → j < priced_count t starts → y (legs_in t + j) ≡ h *ℤ value (legs_in t + j)) where
  rise : (f s : ℕ) → f < fleets_in t → s < stations_in t → Rise (starts f s)
  rise f s known within = nodes_rise t keeps f s (starts f s) (network.each f s known within)

  rent_is : (f : ℕ) → f < fleets_in t → rent_of prices f ≡ neg_ℤ (value (legs_in t + (node_count t starts + f)))
  rent_is f known = by.count (legs_in t + (node_count t starts + f)) f (count_there t starts f known)

  fleet_is : (f : ℕ) → f < fleets_in t → of_fleet t starts y f ≡ neg_ℤ (h *ℤ rent_of prices f)
  fleet_is f known =
      let rent = ap (λ z. h *ℤ z) (rent_is f known) ∙ *ℤ-neg_ℤ h (value (legs_in t + (node_count t starts + f))) in
      omega (arith, ints, rent, scaled (node_count t starts + f) (omega arith))

  -- the price through a node
  price_is : (f s m p : ℕ) → f < fleets_in t → s < stations_in t → m ≤ last_of t → IsAtPlace (starts f s) m p → price_of prices f s m ≡ value (legs_in t + (before t starts f s + p))
  price_is f s m p known within period at =
      by.balance (legs_in t + (before t starts f s + p)) m (node_of_place f s p)
      (balance_there t starts (before t starts f s + p) (node_within t starts f s p known within at.within) ∙ ap Balance (node_there t starts f s p (node_of_place 0 0 0) known within at.within))
      (in_node t (starts f s) m p period at)

  node_is : (f s k : ℕ) → f < fleets_in t → s < stations_in t → k < length (starts f s) → of_node t starts y f s k ≡ h *ℤ value (legs_in t + (before t starts f s + k))
  node_is f s k known within below = scaled (before t starts f s + k) (omega (arith, node_within t starts f s k known within below))

  minute_is : (f s m : ℕ) → f < fleets_in t → s < stations_in t → m ≤ last_of t → 0 < length (starts f s) → at_minute t starts y f s m ≡ h *ℤ price_of prices f s m
  minute_is f s m known within period some =
      let p = some_place (starts f s) m (rise f s known within) some in
      sum_below_ℤ-same (λ k. where_true (is_in_node t (starts f s) k m) (of_node t starts y f s k)) (λ k. where_true (p.0 == k) (of_node t starts y f s k)) (length (starts f s))
      (λ k below. ap (λ b. where_true b (of_node t starts y f s k)) (same_tests (is_in_node t (starts f s) k m) (p.0 == k)
      (λ e. equal_number p.0 k (one_place (starts f s) m p.0 k p.1 (at_place t (starts f s) m k (rise f s known within) below e)))
      (λ e. subst (λ j. is_in_node t (starts f s) j m ≡ true) (eqb-true p.0 k e) (in_node t (starts f s) m p.0 period p.1))))
      ∙ sum_below_ℤ-one p.0 (of_node t starts y f s) (length (starts f s)) p.1.within
      ∙ node_is f s p.0 known within p.1.within
      ∙ ap (λ z. h *ℤ z) (sym (price_is f s m p.0 known within period p.1))

  -- ---- where lines weigh no column above its cost
  module _ (k : ℕ) (dual : (c : Column) → IsKept t keeps starts c → down t starts y (λ line. entry_of t starts line c) ≤ℤ (h *ℤ (pos k *ℤ prices.scale *ℤ column_cost t c))) where
    -- a kept pair's fleet has nodes where it departs and where it is ready
    some_nodes : (f s : ℕ) (ready : Bool) (m : ℕ) (known : f < fleets_in t) (within : s < stations_in t) → HappensAt (network.each f s known within).events ready m → 0 < length (starts f s)
    some_nodes f s ready m known within happens = (network.each f s known within).nodes.some (λ none. let empty_is : length (network.each f s known within).events ≡ 0 = ap length none in omega (arith, happens.among.1))

    flown_reaches : (p : Pair) → IsFlown t p → keeps p ≡ true → y p.leg ≤ℤ (h *ℤ pair_worth t prices k p)
    flown_reaches p flown kept =
        let f = fleet_by t p in
        let leg = t.in_range.legs_fit.each p.leg no_leg flown.pair.leg in
        let from = (leg_of t p.leg).from in
        let to = (leg_of t p.leg).to in
        let departs = network.each f from flown.by leg.from in
        let lands = network.each f to flown.by leg.to in
        let at = of_flown t p flown in
        let out = subst (λ q. keeps q ≡ true → (leg_of t q.leg).from ≡ from → HappensAt departs.events false (departure t q)) at.1.pair (departs_at t keeps f from departs.events departs.happen at.0 at.1.within) kept refl in
        let back = subst (λ q. keeps q ≡ true → (leg_of t q.leg).to ≡ to → HappensAt lands.events true (ready_minute t q)) at.1.pair (ready_at t keeps f to lands.events lands.happen at.0 at.1.within) kept refl in
        let one = minute_is f to (ready_minute t p) flown.by leg.to (omega (arith, in_period t (departure t p + busy_minutes t p))) (some_nodes f to true (ready_minute t p) flown.by leg.to back) in
        let two = minute_is f from (departure t p) flown.by leg.from (omega (arith, departs_in t p flown.pair)) (some_nodes f from false (departure t p) flown.by leg.from out) in
        let sum = down_flight t starts y p flown leg.from leg.to
        ∙ ap (λ z. y p.leg +ℤ ((z -ℤ at_minute t starts y f from (departure t p)) +ℤ (of_fleet t starts y f *ℤ pos (laps_of t p)))) one
        ∙ ap (λ z. y p.leg +ℤ (((h *ℤ price_of prices f to (ready_minute t p)) -ℤ z) +ℤ (of_fleet t starts y f *ℤ pos (laps_of t p)))) two
        ∙ ap (λ z. y p.leg +ℤ (((h *ℤ price_of prices f to (ready_minute t p)) -ℤ (h *ℤ price_of prices f from (departure t p))) +ℤ (z *ℤ pos (laps_of t p)))) (fleet_is f flown.by) in
        subst (λ z. y p.leg ≤ℤ (h *ℤ z)) (sym (flown_worth t prices k p flown.pair flown.by))
        (gather h (pos k *ℤ prices.scale *ℤ cost_units t p) (price_of prices f from (departure t p)) (price_of prices f to (ready_minute t p)) (rent_of prices f) (pos (laps_of t p)) (y p.leg)
        (down t starts y (λ line. entry_of t starts line (Flight p))) sum (dual (Flight p) (flown.pair, kept)))

    -- one that leaves its leg out has the leg's cover line alone
    left_out_reaches : (p : Pair) → IsPair t p → fleets_in t ≤ fleet_by t p → keeps p ≡ true → y p.leg ≤ℤ (h *ℤ pair_worth t prices k p)
    left_out_reaches p pair out kept =
        subst (λ z. y p.leg ≤ℤ (h *ℤ z)) (sym (left_out_worth t prices k p pair out))
        (subst (λ z. z ≤ℤ (h *ℤ (pos k *ℤ prices.scale *ℤ cost_units t p))) (down_left_out t starts y p pair out) (dual (Flight p) (pair, kept)))

    pair_reaches : (p : Pair) → IsPair t p → keeps p ≡ true → y p.leg ≤ℤ (h *ℤ pair_worth t prices k p)
    pair_reaches p pair kept = elim (cases_lt (fleet_by t p) (fleets_in t)) [
      | inl by ↦ flown_reaches p (record { pair = pair; by = by }) kept
      | inr out ↦ left_out_reaches p pair out kept
    ]

    leg_reaches : (l : ℕ) → l < legs_in t → ¬ (IsBare t keeps l) → y l ≤ℤ (h *ℤ leg_worth t keeps prices k l)
    unfolding leg_worth
    leg_reaches l below some =
        below_unwrapped h (y l) (λ c. keeps (leg_on l c)) (λ c. pair_worth t prices k (leg_on l c)) (choices_in t l) (λ c known kept. pair_reaches (leg_on l c) (record { leg = below; choice = known }) kept)
        (pos_of_ne-zero (λ none. some (record { within = below; none = none })))

    -- what the right sides come to is no more than the worth
    pub worth_reaches : ((l : ℕ) → ¬ (IsBare t keeps l)) → down t starts y (λ line. right_side_of t line) ≤ℤ (h *ℤ worth_of t keeps prices k)
    unfolding worth_of less_charges
    worth_reaches some =
        let legs = sum_below_ℤ-le y (λ l. h *ℤ leg_worth t keeps prices k l) (legs_in t) (λ l below. leg_reaches l below (some l)) in
        let all_legs = *ℤ-sum_below_ℤ h (leg_worth t keeps prices k) (legs_in t) in
        let charges = limits_charged t starts prices value by h y scaled in
        let no_more = neg_ℤ-*ℤ h (sum_below_ℤ (charges_of t prices) (stations_in t)) in
        let rents = sum_below_ℤ-same (λ f. of_fleet t starts y f *ℤ pos (fleet_of t f).aircraft) (λ f. neg_ℤ h *ℤ rents_of t prices f) (fleets_in t)
        (λ f known. ap (λ z. z *ℤ pos (fleet_of t f).aircraft) (fleet_is f known) ∙ factor_out h (rent_of prices f) (pos (fleet_of t f).aircraft)) in
        let all_rents = *ℤ-sum_below_ℤ (neg_ℤ h) (rents_of t prices) (fleets_in t) in
        let sign = neg_ℤ-*ℤ h (sum_below_ℤ (rents_of t prices) (fleets_in t)) in
        let apart = *ℤ--ℤ h (sum_below_ℤ (leg_worth t keeps prices k) (legs_in t)) (sum_below_ℤ (rents_of t prices) (fleets_in t)) in
        let less = *ℤ--ℤ h (sum_below_ℤ (leg_worth t keeps prices k) (legs_in t) -ℤ sum_below_ℤ (rents_of t prices) (fleets_in t)) (sum_below_ℤ (charges_of t prices) (stations_in t)) in
        omega (arith, ints, down_sides t starts y, legs, all_legs, rents, all_rents, sign, apart, charges, no_more, less)

    -- ---- rents, charges and rises
    rent_some : (f : ℕ) → f < fleets_in t → pos 0 ≤ℤ rent_of prices f
    rent_some f known =
        let weigh = dual (Slack f) known in
        let sum = down_slack t starts y f known in
        factor_at_least_0 h (rent_of prices f) above (omega (arith, ints, weigh, sum, times_zero h prices.scale k, fleet_is f known))

    charge_some : (p : Park) → IsPark t p → pos 0 ≤ℤ charge_of prices p.station p.day
    charge_some p known =
        let weigh = dual (Room p) known in
        let sum = down_room t starts y p known in
        factor_at_least_0 h (charge_of prices p.station p.day) above (omega (arith, ints, weigh, sum, times_zero h prices.scale k, number_is t starts prices value by h y scaled p known))

    -- over an arc that stays, by the charge at its end
    abbrev charge_at : ℕ → ℕ → ℕ → ℤ
    charge_at f s j = charge_after prices s (end_in t (starts f s) j)

    arc_falls : (f s j : ℕ) → f < fleets_in t → s < stations_in t → j < length (starts f s) → moment_at t keeps starts (node_of_place f s j) ≡ None
        → ((of_node t starts y f s (place_after (length (starts f s)) j) -ℤ of_node t starts y f s j) +ℤ where_true (length (starts f s) == j + 1) (of_fleet t starts y f)) ≤ℤ (h *ℤ charge_at f s j)
    arc_falls f s j known within below none =
        let node : IsNode t starts (node_of_place f s j) = record { fleet = known; station = within; place = below } in
        let charge = passed_charge t starts prices value by h y scaled (node_of_place f s j) within (end_within t keeps f s (starts f s) (network.each f s known within) j) in
        omega (arith, ints, dual (Ground (node_of_place f s j)) (node, stays none), down_ground t starts y (node_of_place f s j) node, times_zero h prices.scale k, charge)
      where
        stays : moment_at t keeps starts (node_of_place f s j) ≡ None → arc_stays t keeps starts (node_of_place f s j) ≡ true
        stays none = staying t keeps starts (node_of_place f s j) none

    falls_next : (f s j : ℕ) → f < fleets_in t → s < stations_in t → j + 1 < length (starts f s) → moment_at t keeps starts (node_of_place f s j) ≡ None
        → value (legs_in t + (before t starts f s + (j + 1))) ≤ℤ (value (legs_in t + (before t starts f s + j)) +ℤ charge_at f s j)
    falls_next f s j known within below none =
        let law = arc_falls f s j known within (omega arith) none in
        let next : place_after (length (starts f s)) j ≡ j + 1 = after (length (starts f s)) j below in
        let no_start = ap (λ b. where_true b (of_fleet t starts y f)) (ne_eqb (length (starts f s)) (j + 1) (not_last (length (starts f s)) j below)) in
        let there = ap (of_node t starts y f s) next in
        let sum = *ℤ-+ℤ h (value (legs_in t + (before t starts f s + j))) (charge_at f s j) in
        factor_le_cancel h (value (legs_in t + (before t starts f s + (j + 1)))) (value (legs_in t + (before t starts f s + j)) +ℤ charge_at f s j) above
        (omega (arith, ints, law, no_start, there, sum, node_is f s j known within (omega arith), node_is f s (j + 1) known within below))
      where
        after : (n j : ℕ) → j + 1 < n → place_after n j ≡ j + 1
        after n j less = grind (arith, nat_tests)

        not_last : (n j : ℕ) → j + 1 < n → n ≢ j + 1
        not_last n j less = omega arith

    over_end : (f s last : ℕ) → f < fleets_in t → s < stations_in t → last + 1 ≡ length (starts f s) → moment_at t keeps starts (node_of_place f s last) ≡ None
        → value (legs_in t + (before t starts f s + 0)) ≤ℤ (value (legs_in t + (before t starts f s + last)) +ℤ rent_of prices f +ℤ charge_at f s last)
    over_end f s last known within ends none =
        let law = arc_falls f s last known within (omega arith) none in
        let next : place_after (length (starts f s)) last ≡ 0 = first (length (starts f s)) last ends in
        let start = ap (λ b. where_true b (of_fleet t starts y f)) (equal_number (length (starts f s)) (last + 1) (sym ends)) in
        let there = ap (of_node t starts y f s) next in
        let sum = *ℤ-+ℤ h (value (legs_in t + (before t starts f s + last))) (rent_of prices f) in
        let charged = *ℤ-+ℤ h (value (legs_in t + (before t starts f s + last)) +ℤ rent_of prices f) (charge_at f s last) in
        factor_le_cancel h (value (legs_in t + (before t starts f s + 0))) (value (legs_in t + (before t starts f s + last)) +ℤ rent_of prices f +ℤ charge_at f s last) above
        (omega (arith, ints, law, start, there, sum, charged, fleet_is f known, node_is f s 0 known within (omega arith), node_is f s last known within (omega arith)))
      where
        first : (n j : ℕ) → j + 1 ≡ n → place_after n j ≡ 0
        first n j ends = grind (arith, nat_tests)

    -- ---- by the nodes
    starts_there : (f s j : ℕ) → f < fleets_in t → s < stations_in t → j < length (starts f s) → IsAtPlace (starts f s) (get_or (starts f s) j 0) j
    starts_there f s j known within below = record { within = below; begun = omega arith; last = λ i past inside. later (starts f s) (rise f s known within) j i past inside }

    start_in_period : (f s j : ℕ) → f < fleets_in t → s < stations_in t → j < length (starts f s) → get_or (starts f s) j 0 ≤ last_of t
    start_in_period f s j known within below = omega (arith, start_within t keeps f s (starts f s) (network.each f s known within) j below)

    price_at_start : (f s j : ℕ) → f < fleets_in t → s < stations_in t → j < length (starts f s) → price_of prices f s (get_or (starts f s) j 0) ≡ value (legs_in t + (before t starts f s + j))
    price_at_start f s j known within below = price_is f s (get_or (starts f s) j 0) j known within (start_in_period f s j known within below) (starts_there f s j known within below)

    pub through_nodes : AreByNodes t prices starts
    through_nodes = record {
      through = λ f s j m known within below begun ended.
          let at = at_place t (starts f s) m j (rise f s known within) below (test_of (get_or (starts f s) j 0) m (end_in t (starts f s) j) begun ended) in
          price_is f s m j known within (omega (arith, ended, end_within t keeps f s (starts f s) (network.each f s known within) j)) at ∙ sym (price_at_start f s j known within below);
      nowhere = λ f s m known within none. by.nowhere f s m known within (empty_is (starts f s) none);
    }

    pub rise_by_charges : DoRiseByCharges t prices starts (λ f s j. moment_at t keeps starts (node_of_place f s j))
    rise_by_charges = record {
      each = λ f s j known within below none. elim (cases_lt (j + 1) (length (starts f s))) [
        | inl more ↦ omega (
          arith,
          ints,
          falls_next f s j known within more none,
          price_at_start f s j known within below,
          price_at_start f s (j + 1) known within more,
          rise_inside prices (starts f s) f s j more,
        )
        | inr last ↦ omega (
          arith,
          ints,
          over_end f s j known within (omega arith) none,
          price_at_start f s j known within below,
          price_at_start f s 0 known within (omega arith),
          ap (λ m. price_of prices f s m) (rise f s known within).first,
          rise_at_last prices (starts f s) f s j last,
        )
      ];
    }

    -- ---- rents, prices and charges within their limits
    module _ (small : (j : ℕ) → j < priced_count t starts → unsigned_abs (value (legs_in t + j)) ≤ max_price) where
      bounds : (z : ℤ) (n : ℕ) → unsigned_abs z ≤ n → (neg_ℤ (pos n) ≤ℤ z) × (z ≤ℤ pos n)
      bounds z n le = (omega (arith, ints), omega (arith, ints))

      price_bounds : (f s m : ℕ) → f < fleets_in t → s < stations_in t → m ≤ last_of t → (neg_ℤ (pos max_price) ≤ℤ price_of prices f s m) × (price_of prices f s m ≤ℤ pos max_price)
      price_bounds f s m known within period = elim (cases_lt 0 (length (starts f s))) [
        | inl some ↦
            let p = some_place (starts f s) m (rise f s known within) some in
            subst (λ z. (neg_ℤ (pos max_price) ≤ℤ z) × (z ≤ℤ pos max_price)) (sym (price_is f s m p.0 known within period p.1))
            (bounds (value (legs_in t + (before t starts f s + p.0))) max_price (small (before t starts f s + p.0) (omega (arith, node_within t starts f s p.0 known within p.1.within))))
        | inr none ↦ subst (λ z. (neg_ℤ (pos max_price) ≤ℤ z) × (z ≤ℤ pos max_price)) (sym (by.nowhere f s m known within (empty_is (starts f s) (omega arith)))) (omega (arith, ints), omega (arith, ints))
      ]

      charge_bounds : (s d : ℕ) → s < stations_in t → 0 < d → d ≤ days_in t → IsCharge t prices s d
      charge_bounds s d within some inside = elim (cases_lt 0 (parking_days t s)) [
        | inl limited ↦
            let p : Park = record { station = s; day = d } in
            let known : IsPark t (record { station = s; day = d }) = record { station = within; some = some; day = omega (arith, inside, limited_days t s limited) } in
            let n = node_count t starts + (fleets_in t + number_of_park t (record { station = s; day = d })) in
            let size = bounds (value (legs_in t + n)) max_price (small n (omega (arith, park_within t (record { station = s; day = d }) known))) in
            record {
              some = charge_some (record { station = s; day = d }) known;
              within = omega (arith, ints, charge_is t starts prices value by h y scaled (record { station = s; day = d }) known, size.0);
              only_limited = λ no_limit. absurd (omega (arith, limited, ap (λ o. if is_some o then days_in t else 0) no_limit));
            }
        | inr free ↦
            let none = by.uncharged s d (λ known. omega (arith, known.day, some, free)) in
            record { some = omega (arith, ints, none); within = omega (arith, ints, none); only_limited = λ no_limit. none }
      ]

      pub are_within : AreWithin t prices
      are_within = record {
        rents = λ f known.
            let size = bounds (value (legs_in t + (node_count t starts + f))) max_price (small (node_count t starts + f) (omega arith)) in
            record { some = rent_some f known; within = omega (arith, ints, rent_is f known, size.0, size.1) };
        charges = λ s d within some inside. charge_bounds s d within some inside;
        each = λ f s m known within period. let ends = price_bounds f s m known within (omega (arith, period)) in record { no_less = ends.0; no_more = ends.1 };
      }
