-- Tables with optional legs keep what tables keep.
use Rattle.std.proofs.Common.{◌≡◌, ◌++◌, ◌==◌, ℕ, zero, suc, ◌*◌, ◌<◌, ◌≤◌, ℤ, Bool, true, false, if◌then◌else◌, List, [], ◌∷◌, length, slice_index_or, is_some, Option, Some, refl, sym, ap, subst, ◌∙◌, arith}
use Rattle.std.specs.List.{AllByRecursion}
use Rattle.std.proofs.lemmas.List.Elements.{recursion_from_All}
use Rattle.sums.specs.Below.{count_below, sum_below}
use Rattle.sums.specs.Places.{list_below}
use Rattle.sums.proofs.Places.{get_or-list_below, length-list_below}
use Rattle.sums.proofs.Sums.{sum_below-agree}
use Rattle.fleet_model.specs.Costs.{cost_in}
use Rattle.fleet_model.specs.Limits.{AreCosts, AreTables, AreThroughs, IsCostUpTo, IsLeg}
use Rattle.fleet_model.specs.Schedule.{fleets_in, legs_in, no_leg}
use Rattle.fleet_model.specs.Windows.{at_time, departures_below, departures_of_legs, times_of, triples_in}
use Rattle.fleet_model.specs.declared.limits.TheConstants.{MAX_TRIPLES}
use Rattle.fleet_model.specs.declared.parts.Leg.{Leg}
use Rattle.fleet_model.specs.declared.tables.Tables.{Tables}
use Rattle.sched_read.specs.optional_legs.Adding.{HaveOptional, leg_with_skip, skip_in, skippable_leg}
use Rattle.sched_read.specs.optional_legs.Optional.{AreOptional, IsOptional}
use Rattle.sched_read.specs.declared.optional_legs.optional.OptionalLeg.{OptionalLeg}

-- what it costs to leave a leg out is a cost that a table names
skip_fits : (optional : List OptionalLeg) (legs l : ℕ) → AllByRecursion (IsOptional legs) optional → (price : ℤ) → skip_in optional l ≡ Some price → IsCostUpTo 1 price
skip_fits [] legs l fit price is = absurd (cc is)
skip_fits (first ∷ rest) legs l fit price is = by_leg (first.leg == l) (λ there. skip_fits rest legs l fit.1 price there) is
  where
    by_leg : (b : Bool) → (skip_in rest l ≡ Some price → IsCostUpTo 1 price) → ◌≡◌ {A = Option ℤ} (if b then Some first.skip else skip_in rest l) (Some price) → IsCostUpTo 1 price
    by_leg true further here = subst (IsCostUpTo 1) (same_price first.skip price here) fit.0.skip
      where
        same_price : (a b : ℤ) → ◌≡◌ {A = Option ℤ} (Some a) (Some b) → a ≡ b
        same_price a b same = cc
    by_leg false further there = further there

-- departures are those of the legs' times alone
same_departures : (a b : List Leg) (n : ℕ) → ((l : ℕ) → l < n → times_of a l ≡ times_of b l) → departures_below a n ≡ departures_below b n
same_departures a b zero same = refl
same_departures a b (suc n) same =
    let before = same_departures a b n (λ l below. same l (omega arith)) in
    ap (λ listed. listed ++ list_below (at_time n) (times_of a n)) before ∙ ap (λ times. departures_below b n ++ list_below (at_time n) times) (same n (omega arith))

module _ (t : Tables) (optional : List OptionalLeg) (are : AreOptional t optional) where
  abbrev legs : List Leg
  legs = list_below (leg_with_skip t optional) (legs_in t)

  as_many : length legs ≡ legs_in t
  as_many = length-list_below (leg_with_skip t optional) (legs_in t)

  leg_at : (k : ℕ) (d : Leg) → k < legs_in t → slice_index_or legs k d ≡ leg_with_skip t optional k
  leg_at k d below = get_or-list_below (leg_with_skip t optional) (legs_in t) k d below

  leg_fits : (k : ℕ) → k < legs_in t → IsLeg (length t.stations) t.settings.period (leg_with_skip t optional k)
  leg_fits k below =
      let old = t.in_range.legs_fit.each k no_leg below in
      record {
        flight = old.flight;
        from = old.from;
        to = old.to;
        dep = old.dep;
        some_block = old.some_block;
        block = old.block;
        shifts = old.shifts;
        skip = skip_fits optional (legs_in t) k (recursion_from_All (IsOptional (legs_in t)) optional are);
      }

  same_times : (l : ℕ) → l < legs_in t → times_of legs l ≡ times_of t.legs l
  same_times l below = ap (λ (leg : Leg). length leg.shifts) (leg_at l no_leg below)

  departures_are : t.departures ≡ departures_of_legs legs
  departures_are =
      t.in_range.departures_fit ∙ sym (same_departures legs t.legs (legs_in t) same_times) ∙ ap (departures_below legs) (sym as_many)

  abbrev flown : ℕ → ℕ
  flown l = count_below (λ f. is_some (cost_in t.costs l f)) (fleets_in t)

  triples_few : triples_in (fleets_in t) legs t.costs ≤ MAX_TRIPLES
  triples_few =
      let same : triples_in (fleets_in t) legs t.costs ≡ triples_in (fleets_in t) t.legs t.costs =
      ap (sum_below (λ l. flown l * times_of legs l)) as_many
      ∙ sum_below-agree (λ l. flown l * times_of legs l) (λ l. flown l * times_of t.legs l) (legs_in t) (record { each = λ l below. ap (λ n. flown l * n) (same_times l below) }) in
      subst (λ n. n ≤ MAX_TRIPLES) (sym same) t.in_range.few_triples

  pub fit : AreTables t.stations t.fleets legs t.costs t.throughs t.settings t.departures t.windows true
  fit = record {
    stations_fit = t.in_range.stations_fit;
    fleets_fit = t.in_range.fleets_fit;
    legs_fit = record {
      few = subst (λ n. n ≤ 1000) (sym as_many) t.in_range.legs_fit.few;
      each = λ k d below.
          let within : k < legs_in t = subst (λ n. k < n) as_many below in
          subst (IsLeg (length t.stations) t.settings.period) (sym (leg_at k d within)) (leg_fits k within);
      differ = λ i j d order below same.
          let within : j < legs_in t = subst (λ n. j < n) as_many below in
          let before : i < legs_in t = omega (arith, order, within) in
          t.in_range.legs_fit.differ i j no_leg order within
          (sym (ap (λ (leg : Leg). leg.flight) (leg_at i d before)) ∙ same ∙ ap (λ (leg : Leg). leg.flight) (leg_at j d within));
    };
    costs_fit = subst (λ n. AreCosts n (length t.fleets) t.costs) (sym as_many) t.in_range.costs_fit;
    throughs_fit = subst (λ n. AreThroughs n t.throughs) (sym as_many) t.in_range.throughs_fit;
    settings_fit = t.in_range.settings_fit;
    departures_fit = departures_are;
    few_triples = triples_few;
    moved_where_asked = λ none. record {
      each = λ l below. let within : l < legs_in t = subst (λ n. l < n) as_many below in same_times l within ∙ (t.in_range.moved_where_asked none).each l within;
    };
    left_out_where_asked = λ wrong. absurd (cc wrong);
  }

  -- lists that are those
  pub optional_fit : (now : List Leg) → now ≡ legs → AreTables t.stations t.fleets now t.costs t.throughs t.settings t.departures t.windows true
  optional_fit now is = subst (λ ls. AreTables t.stations t.fleets ls t.costs t.throughs t.settings t.departures t.windows true) (sym is) fit

  -- there are such tables
  abbrev pub tables_with : Tables
  tables_with = record {
    stations = t.stations;
    fleets = t.fleets;
    legs = legs;
    costs = t.costs;
    throughs = t.throughs;
    settings = t.settings;
    departures = t.departures;
    windows = t.windows;
    optional = true;
    in_range = fit;
  }

  pub they_have : HaveOptional t optional tables_with
  they_have = record { stations = refl; fleets = refl; legs = refl; costs = refl; throughs = refl; settings = refl; windows = refl; asked = refl }

-- legs of which it was said what it costs to leave them out
pub given : (t : Tables) (optional : List OptionalLeg) (old now : List Leg) → old ≡ t.legs
    → now ≡ list_below (λ l. skippable_leg (slice_index_or old l no_leg) (skip_in optional l)) (length old) → now ≡ list_below (leg_with_skip t optional) (legs_in t)
given t optional old now is by_old = by_old ∙ ap (λ (ls : List Leg). list_below (λ l. skippable_leg (slice_index_or ls l no_leg) (skip_in optional l)) (length ls)) is
