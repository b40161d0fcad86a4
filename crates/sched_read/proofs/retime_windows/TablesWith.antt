-- Tables with windows keep what tables keep.
use Rattle.std.proofs.Common.{◌≡◌, ℕ, ◌+◌, ◌*◌, ◌<◌, ◌≤◌, true, List, length, map, slice_index_or, refl, sym, ap, subst, ◌∙◌, arith}
use Rattle.sums.specs.Below.{sum_below}
use Rattle.sums.specs.Places.{list_below}
use Rattle.sums.proofs.Places.{get_or-list_below, length-list_below}
use Rattle.sums.proofs.Sums.{sum_below-agree}
use Rattle.fleet_model.specs.Limits.{AreCosts, AreTables, AreThroughs, IsLeg}
use Rattle.fleet_model.specs.Period.{minutes_of}
use Rattle.fleet_model.specs.Schedule.{fleets_in, leg_of, legs_in, no_leg}
use Rattle.fleet_model.specs.Windows.{departures_of_legs, times_of, triples_in}
use Rattle.fleet_model.specs.declared.limits.TheConstants.{MAX_LEGS, MAX_TRIPLES}
use Rattle.fleet_model.specs.declared.parts.Departure.{Departure}
use Rattle.fleet_model.specs.declared.parts.Leg.{Leg}
use Rattle.fleet_model.specs.declared.tables.Tables.{Tables}
use Rattle.sched_read.specs.retime_windows.Keys.{fleet_counts, fleets_on, triples_by, triples_of, window_key, windows_on}
use Rattle.sched_read.specs.retime_windows.Times.{AreWindows, HaveWindows, leg_in_windows, leg_with_windows}
use Rattle.sched_read.specs.declared.retime_windows.window.Window.{Window}
use Rattle.sched_read.proofs.retime_windows.NoneYet.{count_of, legs_counted}
use Rattle.sched_read.proofs.retime_windows.TimesFit.{all_counted, are_times}

module _ (t : Tables) (windows : List Window) (are : AreWindows t windows) where
  abbrev legs : List Leg
  legs = list_below (leg_with_windows t windows) (legs_in t)

  as_many : length legs ≡ legs_in t
  as_many = length-list_below (leg_with_windows t windows) (legs_in t)

  leg_at : (k : ℕ) (d : Leg) → k < legs_in t → slice_index_or legs k d ≡ leg_with_windows t windows k
  leg_at k d below = get_or-list_below (leg_with_windows t windows) (legs_in t) k d below

  leg_fits : (k : ℕ) → k < legs_in t → IsLeg (length t.stations) t.settings.period (leg_with_windows t windows k)
  leg_fits k below =
      let old = t.in_range.legs_fit.each k no_leg below in
      record {
        flight = old.flight;
        from = old.from;
        to = old.to;
        dep = old.dep;
        some_block = old.some_block;
        block = old.block;
        shifts = are_times t windows t.settings.period k (leg_of t k).dep are old.dep;
        skip = old.skip;
      }

  triples_few : triples_in (fleets_in t) legs t.costs ≤ MAX_TRIPLES
  unfolding triples_by
  triples_few =
      let keys = map window_key windows in
      let each : (l : ℕ) → l < legs_in t → fleets_on t l * times_of legs l ≡ triples_of (fleet_counts t) keys l = λ l below.
      ap (λ (leg : Leg). fleets_on t l * length leg.shifts) (leg_at l no_leg below)
      ∙ ap (λ n. fleets_on t l * n) (all_counted windows (minutes_of t.settings.period) l (leg_of t l).dep)
      ∙ ap (λ n. n * (1 + windows_on keys l)) (sym (count_of t l below)) in
      let sums : sum_below (λ l. fleets_on t l * times_of legs l) (legs_in t) ≡ sum_below (triples_of (fleet_counts t) keys) (legs_in t) =
      sum_below-agree (λ l. fleets_on t l * times_of legs l) (triples_of (fleet_counts t) keys) (legs_in t) (record { each = each }) in
      let all : sum_below (λ l. fleets_on t l * times_of legs l) (length legs) ≡ sum_below (triples_of (fleet_counts t) keys) (length (fleet_counts t)) =
      ap (sum_below (λ l. fleets_on t l * times_of legs l)) as_many ∙ sums ∙ ap (sum_below (triples_of (fleet_counts t) keys)) (sym (legs_counted t)) in
      subst (λ n. n ≤ MAX_TRIPLES) (sym all) are.few_triples

  pub fit : AreTables t.stations t.fleets legs t.costs t.throughs t.settings (departures_of_legs legs) true t.optional
  fit = record {
    stations_fit = t.in_range.stations_fit;
    fleets_fit = t.in_range.fleets_fit;
    legs_fit = record {
      few = subst (λ n. n ≤ 1000) (sym as_many) t.in_range.legs_fit.few;
      each = λ k d below.
          let within : k < legs_in t = subst (λ n. k < n) as_many below in
          subst (IsLeg (length t.stations) t.settings.period) (sym (leg_at k d within)) (leg_fits k within);
      differ = λ i j d order below same.
          let within : j < legs_in t = subst (λ n. j < n) as_many below in
          let before : i < legs_in t = omega (arith, order, within) in
          t.in_range.legs_fit.differ i j no_leg order within
          (sym (ap (λ (leg : Leg). leg.flight) (leg_at i d before)) ∙ same ∙ ap (λ (leg : Leg). leg.flight) (leg_at j d within));
    };
    costs_fit = subst (λ n. AreCosts n (length t.fleets) t.costs) (sym as_many) t.in_range.costs_fit;
    throughs_fit = subst (λ n. AreThroughs n t.throughs) (sym as_many) t.in_range.throughs_fit;
    settings_fit = t.in_range.settings_fit;
    departures_fit = refl;
    few_triples = triples_few;
    moved_where_asked = λ wrong. absurd (cc wrong);
    left_out_where_asked = λ none. record {
      each = λ l below.
          let within : l < legs_in t = subst (λ n. l < n) as_many below in
          ap (λ (leg : Leg). leg.skip) (leg_at l no_leg within) ∙ (t.in_range.left_out_where_asked none).each l within;
    };
  }

  -- lists that are those
  pub windows_fit : (now : List Leg) (departures : List Departure) → now ≡ legs → departures ≡ departures_of_legs now → AreTables t.stations t.fleets now t.costs t.throughs t.settings departures true t.optional
  windows_fit now departures is listed =
      let first : departures ≡ departures_of_legs legs = listed ∙ ap departures_of_legs is in
      subst (λ ls. AreTables t.stations t.fleets ls t.costs t.throughs t.settings departures true t.optional) (sym is)
      (subst (λ ds. AreTables t.stations t.fleets legs t.costs t.throughs t.settings ds true t.optional) (sym first) fit)

  -- there are such tables
  abbrev pub tables_with : Tables
  tables_with = record {
    stations = t.stations;
    fleets = t.fleets;
    legs = legs;
    costs = t.costs;
    throughs = t.throughs;
    settings = t.settings;
    departures = departures_of_legs legs;
    windows = true;
    optional = t.optional;
    in_range = fit;
  }

  pub they_have : HaveWindows t windows tables_with
  they_have = record { stations = refl; fleets = refl; legs = refl; costs = refl; throughs = refl; settings = refl; asked = refl; optional = refl }

-- legs that were given their times
pub given : (t : Tables) (windows : List Window) (period : ℕ) (old now : List Leg) → period ≡ minutes_of t.settings.period → old ≡ t.legs
    → now ≡ list_below (λ l. leg_in_windows period windows l (slice_index_or old l no_leg)) (length old) → now ≡ list_below (leg_with_windows t windows) (legs_in t)
given t windows period old now minutes is by_old =
    by_old ∙ ap (λ p. list_below (λ l. leg_in_windows p windows l (slice_index_or old l no_leg)) (length old)) minutes
    ∙ ap (λ (ls : List Leg). list_below (λ l. leg_in_windows (minutes_of t.settings.period) windows l (slice_index_or ls l no_leg)) (length ls)) is

pub given_few : (t : Tables) (windows : List Window) (now : List Leg) → now ≡ list_below (leg_with_windows t windows) (legs_in t) → length now ≤ MAX_LEGS
given_few t windows now is = omega (arith, ap length is, length-list_below (leg_with_windows t windows) (legs_in t), t.in_range.legs_fit.few)
