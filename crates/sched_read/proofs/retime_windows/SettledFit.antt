-- Settled tables keep what tables keep.
use Rattle.std.proofs.Common.{◌≡◌, ℕ, ◌<◌, ◌≤◌, nat_lt, Bool, true, false, List, length, map, slice_index_or, ℤ, pos, negsuc, ◌+ℤ◌, to_z, of_z, refl, sym, ap, subst, ◌∙◌, arith}
use Rattle.std.proofs.lemmas.Int.{ints, to_z-of_z}
use mir.Syntax.{w128}
use mir.Val.{SFits}
use Rattle.std.proofs.lemmas.List.{get_or-map, length-map}
use Rattle.sums.specs.Places.{list_below}
use Rattle.sums.proofs.Places.{get_or-list_below, length-list_below}
use Rattle.sums.proofs.Tests.{by_choice}
use Rattle.fleet_model.specs.Counts.{pair_at}
use Rattle.fleet_model.specs.Limits.{AreCosts, AreTables, AreThroughs, FlyOnce, IsCostUpTo, IsLeg, IsPairCost, IsShift}
use Rattle.fleet_model.specs.Period.{minutes_of}
use Rattle.fleet_model.specs.Schedule.{fleet_by, fleets_in, leg_of, legs_in, no_leg, period_of, shift_by, shifts_in, slot_by}
use Rattle.fleet_model.specs.Times.{departure}
use Rattle.fleet_model.specs.Windows.{departures_of_legs, own_shift, own_slot}
use Rattle.fleet_model.specs.Costs.{no_cost}
use Rattle.fleet_model.specs.declared.limits.TheConstants.{MAX_LEGS}
use Rattle.fleet_model.specs.declared.parts.Departure.{Departure}
use Rattle.fleet_model.specs.declared.parts.Fleet.{Fleet}
use Rattle.fleet_model.specs.declared.parts.Leg.{Leg}
use Rattle.fleet_model.specs.declared.parts.Pair.{Pair}
use Rattle.fleet_model.specs.declared.parts.PairCost.{PairCost}
use Rattle.fleet_model.specs.declared.parts.Station.{Station}
use Rattle.fleet_model.specs.declared.parts.Through.{Through}
use Rattle.fleet_model.specs.declared.shifts.Shift.{Shift}
use Rattle.fleet_model.specs.declared.tables.Tables.{Tables}
use Rattle.fleet_model.proofs.Departures.{slot_within}
use Rattle.fleet_model.proofs.NotAsked.{once_few, own_alone}
use Rattle.fleet_model.proofs.PeriodMinutes.{departs_always}
use Rattle.sched_read.specs.retime_windows.Settled.{CanSettle, settled_cost, settled_leg, time_of}

-- the time at which a pair is flown is one of its leg
pub shift_is : (t : Tables) (p : Pair) → p.leg < legs_in t → IsShift t.settings.period (leg_of t p.leg).dep (shift_by t p)
shift_is t p below = (t.in_range.legs_fit.each p.leg no_leg below).shifts.each (slot_by t p) (own_shift 0) (slot_within t p)

pub time_small : (t : Tables) (p : Pair) → p.leg < legs_in t → IsCostUpTo 1 (time_of t p).extra
time_small t p below =
    by_choice (λ (time : Shift). IsCostUpTo 1 time.extra) (nat_lt (fleet_by t p) (fleets_in t)) (shift_by t p) (own_shift (leg_of t p.leg).dep)
    (λ flown. (shift_is t p below).extra) (λ out. record { no_less = omega (arith, ints); no_more = omega (arith, ints) })

pub time_within : (t : Tables) (p : Pair) → p.leg < legs_in t → (time_of t p).dep < minutes_of t.settings.period
unfolding departure period_of
time_within t p below =
    by_choice (λ (time : Shift). time.dep < minutes_of t.settings.period) (nat_lt (fleet_by t p) (fleets_in t)) (shift_by t p) (own_shift (leg_of t p.leg).dep)
    (λ flown. departs_always t p) (λ out. (t.in_range.legs_fit.each p.leg no_leg below).dep)

-- without windows each leg departs at its own time
only_time : (t : Tables) (p : Pair) → p.leg < legs_in t → shifts_in t p.leg ≡ 1 → shift_by t p ≡ own_shift (leg_of t p.leg).dep
only_time t p below once =
    let fit = (t.in_range.legs_fit.each p.leg no_leg below).shifts in
    let first : slot_by t p ≡ 0 = omega (arith, slot_within t p, once) in
    let own : own_slot (leg_of t p.leg).shifts ≡ 0 = omega (arith, fit.own_there, once) in
    ap (λ k. slice_index_or (leg_of t p.leg).shifts k (own_shift 0)) (first ∙ sym own) ∙ fit.own

pub plain_time : (t : Tables) (p : Pair) → p.leg < legs_in t → t.windows ≡ false → time_of t p ≡ own_shift (leg_of t p.leg).dep
plain_time t p below none =
    by_choice (λ (time : Shift). time ≡ own_shift (leg_of t p.leg).dep) (nat_lt (fleet_by t p) (fleets_in t)) (shift_by t p) (own_shift (leg_of t p.leg).dep)
    (λ flown. only_time t p below ((t.in_range.moved_where_asked none).each p.leg below)) (λ out. refl)

module _ (t : Tables) (a : List ℕ) where
  abbrev pub settled_legs : List Leg
  settled_legs = list_below (settled_leg t a) (legs_in t)

  abbrev pub settled_costs : List PairCost
  settled_costs = map (settled_cost t a) t.costs

  pub as_many : length settled_legs ≡ legs_in t
  as_many = length-list_below (settled_leg t a) (legs_in t)

  pub settled_at : (k : ℕ) (d : Leg) → k < legs_in t → slice_index_or settled_legs k d ≡ settled_leg t a k
  settled_at k d below = get_or-list_below (settled_leg t a) (legs_in t) k d below

  leg_fits : (k : ℕ) → k < legs_in t → IsLeg (length t.stations) t.settings.period (settled_leg t a k)
  leg_fits k below =
      let old = t.in_range.legs_fit.each k no_leg below in
      let within = time_within t (pair_at a k) below in
      record {
        flight = old.flight;
        from = old.from;
        to = old.to;
        dep = within;
        some_block = old.some_block;
        block = old.block;
        shifts = own_alone t.settings.period (time_of t (pair_at a k)).dep within;
        skip = old.skip;
      }

  once : FlyOnce settled_legs
  once = record { each = λ l below. ap (λ (leg : Leg). length leg.shifts) (settled_at l no_leg (subst (λ n. l < n) as_many below)) }

  -- a cost that the time of its leg raises
  both_small : (cost extra : ℤ) → IsCostUpTo 1 cost → IsCostUpTo 1 extra → IsCostUpTo 2 (cost +ℤ extra)
  both_small cost extra first second =
      record { no_less = omega (arith, ints, first.no_less, second.no_less); no_more = omega (arith, ints, first.no_more, second.no_more) }

  not_raised : (cost extra : ℤ) → IsCostUpTo 2 cost → extra ≡ pos 0 → IsCostUpTo 2 (cost +ℤ extra)
  not_raised cost extra fit none = record { no_less = omega (arith, ints, fit.no_less, none); no_more = omega (arith, ints, fit.no_more, none) }

  raised_fits : CanSettle t → (k : ℕ) → k < length t.costs → (asked : Bool) → t.windows ≡ asked → IsCostUpTo 2 (settled_cost t a (slice_index_or t.costs k no_cost)).cost
  raised_fits can k below true asked =
      let entry = slice_index_or t.costs k no_cost in
      both_small entry.cost (time_of t (pair_at a entry.leg)).extra (can asked k no_cost below) (time_small t (pair_at a entry.leg) (t.in_range.costs_fit.each k no_cost below).leg)
  raised_fits can k below false none =
      let entry = slice_index_or t.costs k no_cost in
      let fit = t.in_range.costs_fit.each k no_cost below in
      not_raised entry.cost (time_of t (pair_at a entry.leg)).extra fit.cost (ap (λ (time : Shift). time.extra) (plain_time t (pair_at a entry.leg) fit.leg none))

  cost_at : (k : ℕ) (d : PairCost) → k < length t.costs → slice_index_or settled_costs k d ≡ settled_cost t a (slice_index_or t.costs k no_cost)
  cost_at k d below = get_or-map (settled_cost t a) t.costs k no_cost d below

  costs_fit : CanSettle t → AreCosts (legs_in t) (length t.fleets) settled_costs
  costs_fit can = record {
    each = λ k d below.
        let within : k < length t.costs = subst (λ n. k < n) (length-map t.costs (settled_cost t a)) below in
        let fit = t.in_range.costs_fit.each k no_cost within in
        subst (IsPairCost (legs_in t) (length t.fleets)) (sym (cost_at k d within)) (record { leg = fit.leg; fleet = fit.fleet; cost = raised_fits can k within t.windows refl });
    differ = λ i j d order below same.
        let within : j < length t.costs = subst (λ n. j < n) (length-map t.costs (settled_cost t a)) below in
        let before : i < length t.costs = omega (arith, order, within) in
        t.in_range.costs_fit.differ i j no_cost order within (record {
          leg = sym (ap (λ (entry : PairCost). entry.leg) (cost_at i d before)) ∙ same.leg ∙ ap (λ (entry : PairCost). entry.leg) (cost_at j d within);
          fleet = sym (ap (λ (entry : PairCost). entry.fleet) (cost_at i d before)) ∙ same.fleet ∙ ap (λ (entry : PairCost). entry.fleet) (cost_at j d within);
        });
  }

  fit : CanSettle t → AreTables t.stations t.fleets settled_legs settled_costs t.throughs t.settings (departures_of_legs settled_legs) false t.optional
  fit can = record {
    stations_fit = t.in_range.stations_fit;
    fleets_fit = t.in_range.fleets_fit;
    legs_fit = record {
      few = subst (λ n. n ≤ MAX_LEGS) (sym as_many) t.in_range.legs_fit.few;
      each = λ k d below.
          let within : k < legs_in t = subst (λ n. k < n) as_many below in
          subst (IsLeg (length t.stations) t.settings.period) (sym (settled_at k d within)) (leg_fits k within);
      differ = λ i j d order below same.
          let within : j < legs_in t = subst (λ n. j < n) as_many below in
          let before : i < legs_in t = omega (arith, order, within) in
          t.in_range.legs_fit.differ i j no_leg order within
          (sym (ap (λ (leg : Leg). leg.flight) (settled_at i d before)) ∙ same ∙ ap (λ (leg : Leg). leg.flight) (settled_at j d within));
    };
    costs_fit = subst (λ n. AreCosts n (length t.fleets) settled_costs) (sym as_many) (costs_fit can);
    throughs_fit = subst (λ n. AreThroughs n t.throughs) (sym as_many) t.in_range.throughs_fit;
    settings_fit = t.in_range.settings_fit;
    departures_fit = refl;
    few_triples = once_few (length t.fleets) settled_legs settled_costs t.in_range.fleets_fit.few (subst (λ n. n ≤ MAX_LEGS) (sym as_many) t.in_range.legs_fit.few) once;
    moved_where_asked = λ _. once;
    left_out_where_asked = λ none. record {
      each = λ l below.
          let within : l < legs_in t = subst (λ n. l < n) as_many below in
          ap (λ (leg : Leg). leg.skip) (settled_at l no_leg within) ∙ (t.in_range.left_out_where_asked none).each l within;
    };
  }

  -- lists that are those
  pub settled_fit : (s : List Station) (f : List Fleet) (l : List Leg) (c : List PairCost) (h : List Through) (d : List Departure) → CanSettle t
      → s ≡ t.stations → f ≡ t.fleets → l ≡ settled_legs → c ≡ settled_costs → h ≡ t.throughs → d ≡ departures_of_legs l → AreTables s f l c h t.settings d false t.optional
  settled_fit s f l c h d can s_is f_is l_is c_is h_is d_is =
      let listed : d ≡ departures_of_legs settled_legs = d_is ∙ ap departures_of_legs l_is in
      rw (s_is, f_is, listed, l_is, c_is, h_is) (fit can)

pub settled_few : (t : Tables) (a : List ℕ) (now : List Leg) → now ≡ settled_legs t a → length now ≤ MAX_LEGS
settled_few t a now is = omega (arith, ap length is, as_many t a, t.in_range.legs_fit.few)

-- a cost and what is added to it are held as they are
fits : (n : ℤ) → IsCostUpTo 3 n → SFits w128 n
fits (pos n) fit = record { sfits = omega (arith, ints, fit.no_more) }
fits (negsuc n) fit = record { sfits = omega (arith, ints, fit.no_less) }

held : (n : ℤ) → IsCostUpTo 3 n → to_z w128 (of_z w128 n) ≡ n
held n fit = to_z-of_z w128 n (fits n fit)

pub sum_held : (cost extra : ℤ) → IsCostUpTo 2 cost → IsCostUpTo 1 extra → to_z w128 (of_z w128 (to_z w128 (of_z w128 cost) +ℤ to_z w128 (of_z w128 extra))) ≡ cost +ℤ extra
sum_held cost extra fit small =
    let first = held cost (record { no_less = omega (arith, ints, fit.no_less); no_more = omega (arith, ints, fit.no_more) }) in
    let second = held extra (record { no_less = omega (arith, ints, small.no_less); no_more = omega (arith, ints, small.no_more) }) in
    rw (first, second) (held (cost +ℤ extra) (record { no_less = omega (arith, ints, fit.no_less, small.no_less); no_more = omega (arith, ints, fit.no_more, small.no_more) }))
