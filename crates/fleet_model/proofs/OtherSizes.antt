-- Tables with another number of aircraft of one fleet: all that doesn't ask how many aircraft there are is as before.
use mathlib.Core.Path.{fun_ext}
use Rattle.std.specs.Prelude.{unwrap_or}
use Rattle.std.proofs.Common.{◌≡◌, ◌≢◌, ℕ, ◌+◌, ◌-◌, ◌*◌, ◌%◌, ◌/◌, ◌<◌, ◌≤◌, ◌==◌, ◌&&◌, nat_le, nat_lt, if◌then◌else◌, Bool, List, length, slice_index_or, Option, None, IsSome, is_some, ℤ, pos, refl, sym, ap, subst, ◌∙◌, inl, inr, length-set, get_or-set_same, get_or-set_other}
use Rattle.std.proofs.lemmas.Bool.{cases_eq, cases_lt}
use Rattle.std.proofs.lemmas.List.{get_or_default, get_or_past}
use Rattle.std.proofs.lemmas.List.Elements.{All-set}
use Rattle.sums.specs.Below.{count_below, sum_below}
use Rattle.sums.proofs.Maxima.{max_below-agree}
use Rattle.sums.proofs.Sums.{sum_below-agree}
use Rattle.sums.proofs.WholeSums.{sum_below_ℤ-same}
use Rattle.fleet_model.specs.declared.limits.TheConstants.{MAX_AIRCRAFT, MAX_FLEETS, MAX_TRIPLES, MINUTES_PER_DAY}
use Rattle.fleet_model.specs.declared.parts.Departure.{Departure}
use Rattle.fleet_model.specs.declared.parts.Fleet.{Fleet}
use Rattle.fleet_model.specs.declared.parts.Leg.{Leg}
use Rattle.fleet_model.specs.declared.parts.Pair.{Pair}
use Rattle.fleet_model.specs.declared.parts.PairCost.{PairCost}
use Rattle.fleet_model.specs.declared.parts.Settings.{Settings}
use Rattle.fleet_model.specs.declared.parts.Station.{Station}
use Rattle.fleet_model.specs.declared.parts.Through.{Through}
use Rattle.fleet_model.specs.declared.tables.Tables.{Tables}
use Rattle.fleet_model.specs.Counts.{Weights, arrived, coming, departed, choice_at, pair_at}
use Rattle.fleet_model.specs.Kept.{Domains, IsBare, IsKeptAssignment, IsSole, all_pairs, kept_on}
use Rattle.fleet_model.specs.Legal.{HasRoom, IsAllowed, IsAssignment, cost_of, flown_cost, leg_cost, total_cost}
use Rattle.fleet_model.specs.Limits.{AreCosts, AreFleets, AreTables, IsFleet}
use Rattle.fleet_model.specs.OtherSizes.{IsOtherSize, OtherSizeStands, resized, with_aircraft}
use Rattle.fleet_model.specs.Schedule.{choices_in, day_end, days_in, choice_on, departures_in, fleet_by, fleet_of, fleets_in, last_of, leg_at, leg_of, leg_on, legs_in, no_fleet, pair_on, parking_of, period_of, shifts_in, slot_by, station_of, stations_in}
use Rattle.fleet_model.specs.Times.{busy_minutes, departure, laps_of, ready_minute}
use Rattle.fleet_model.specs.Windows.{triples_in}
use Rattle.fleet_model.specs.Use.{IsBalanced, excess, laps_at, laps_flown, need_of, parked, stand_of, used_of}

module _ (t : Tables) (fleet count : ℕ) where
  -- the fleet as it stands there
  abbrev changed : Fleet
  changed = with_aircraft (fleet_of t fleet) count

  fleets_before : length (resized t fleet count) ≡ fleets_in t
  fleets_before = length-set t.fleets fleet changed

  -- what the fleet keeps, each fleet keeps
  kept_in : {X : Type 0} (part : Fleet → X) → part changed ≡ part (fleet_of t fleet) → (f : ℕ) (d : Fleet)
      → part (slice_index_or (resized t fleet count) f d) ≡ part (slice_index_or t.fleets f d)
  kept_in part same f d = elim (cases_eq f fleet) [
    | inl at ↦ elim (cases_lt fleet (fleets_in t)) [
      | inl below ↦ ap (λ n. part (slice_index_or (resized t fleet count) n d)) at
          ∙ ap part (get_or-set_same t.fleets fleet changed d below) ∙ same ∙ ap part (get_or_default t.fleets fleet no_fleet d below)
          ∙ ap (λ n. part (slice_index_or t.fleets n d)) (sym at)
      | inr past ↦ ap part (get_or_past (resized t fleet count) f d (subst (λ n. n ≤ f) (sym fleets_before) (subst (λ n. fleets_in t ≤ n) (sym at) past)) ∙ sym (get_or_past t.fleets f d (subst (λ n. fleets_in t ≤ n) (sym at) past)))
    ]
    | inr other ↦ ap part (get_or-set_other t.fleets fleet f changed d other)
  ]

  pub turn_in : (f : ℕ) → (slice_index_or (resized t fleet count) f no_fleet).turn ≡ (fleet_of t f).turn
  turn_in f = kept_in (λ x. x.turn) refl f no_fleet

  -- the fleets keep their limits
  fleets_fit : fleet < fleets_in t → count ≤ MAX_AIRCRAFT → AreFleets (resized t fleet count)
  fleets_fit known few = record {
    few = subst (λ n. n ≤ MAX_FLEETS) (sym fleets_before) t.in_range.fleets_fit.few;
    each = All-set IsFleet t.fleets fleet changed (record { name = was.name; aircraft = few; turn = was.turn }) t.in_range.fleets_fit.each;
    differ = λ i j d before below same. t.in_range.fleets_fit.differ i j d before (subst (λ n. j < n) fleets_before below)
        (sym (kept_in (λ x. x.name) refl i d) ∙ same ∙ kept_in (λ x. x.name) refl j d);
  }
    where
      was : IsFleet (fleet_of t fleet)
      was = t.in_range.fleets_fit.each fleet no_fleet known

  -- the lists keep their limits
  abbrev pub Fits : Type 0
  Fits = AreTables t.stations (resized t fleet count) t.legs t.costs t.throughs t.settings t.departures t.windows t.optional

  abbrev pub sized : Fits → Tables
  sized fits = record { stations = t.stations; fleets = resized t fleet count; legs = t.legs; costs = t.costs; throughs = t.throughs; settings = t.settings; departures = t.departures; windows = t.windows; optional = t.optional; in_range = fits }

  fit : fleet < fleets_in t → count ≤ MAX_AIRCRAFT → Fits
  fit known few = record {
    stations_fit = t.in_range.stations_fit;
    fleets_fit = fleets_fit known few;
    legs_fit = t.in_range.legs_fit;
    costs_fit = subst (λ n. AreCosts (length t.legs) n t.costs) (sym fleets_before) t.in_range.costs_fit;
    throughs_fit = t.in_range.throughs_fit;
    settings_fit = t.in_range.settings_fit;
    departures_fit = t.in_range.departures_fit;
    few_triples = subst (λ n. triples_in n t.legs t.costs ≤ MAX_TRIPLES) (sym fleets_before) t.in_range.few_triples;
    moved_where_asked = t.in_range.moved_where_asked;
    left_out_where_asked = t.in_range.left_out_where_asked;
  }

  -- what holds of the tables of these lists holds of all with the other number
  pub of_sized : (P : Tables → Type 0) → ((fits : Fits) → P (sized fits)) → (u : Tables) → IsOtherSize t fleet count u → P u
  of_sized P all u is =
      let Parts : Type 0 = List Station × List Fleet × List Leg × List PairCost × List Through × Settings × List Departure × Bool × Bool in
      let parts_t : Parts = (t.stations, resized t fleet count, t.legs, t.costs, t.throughs, t.settings, t.departures, t.windows, t.optional) in
      let parts_u : Parts = (u.stations, u.fleets, u.legs, u.costs, u.throughs, u.settings, u.departures, u.windows, u.optional) in
      let stations = is.stations in
      let fleets = is.fleets in
      let legs = is.legs in
      let costs = is.costs in
      let throughs = is.throughs in
      let settings = is.settings in
      let departures = is.departures in
      let windows = is.windows in
      let optional = is.optional in
      let same : parts_t ≡ parts_u = cc in
      let Holds : Parts → Type 0 = λ p. (fits : AreTables p.0 p.1 p.2 p.3 p.4 p.5 p.6 p.7 p.8)
      → P (record { stations = p.0; fleets = p.1; legs = p.2; costs = p.3; throughs = p.4; settings = p.5; departures = p.6; windows = p.7; optional = p.8; in_range = fits }) in
      let here : Holds parts_t = all in
      subst Holds same here u.in_range

pub other_size_stands : OtherSizeStands
other_size_stands t fleet count known few = (sized t fleet count (fit t fleet count known few), record { stations = refl; fleets = refl; legs = refl; costs = refl; throughs = refl; settings = refl; departures = refl; windows = refl; optional = refl })

-- ---- times and counts, by the lists
module _ (t : Tables) (fleet count : ℕ) (fits : Fits t fleet count) where
  abbrev there : Tables
  there = sized t fleet count fits

  busy_there : (p : Pair) → busy_minutes there p ≡ busy_minutes t p
  unfolding fleet_by
  busy_there p = ap (λ n. (leg_of t p.leg).block + n + (station_of t (leg_of t p.leg).to).extra) (turn_in t fleet count (fleet_by t p))

  ready_there : (p : Pair) → ready_minute there p ≡ ready_minute t p
  unfolding period_of departure slot_by
  ready_there p = ap (λ n. (departure t p + n) % period_of t) (busy_there p)

  laps_there : (p : Pair) → laps_of there p ≡ laps_of t p
  unfolding period_of departure slot_by
  laps_there p = ap (λ n. (departure t p + n) / period_of t) (busy_there p)

  module _ (w : Weights) (f : ℕ) where
    departed_there : (s m : ℕ) → departed there w f s m ≡ departed t w f s m
    unfolding departed leg_at choice_on departures_in departure slot_by
    departed_there s m = refl

    arrived_there : (s m : ℕ) → arrived there w f s m ≡ arrived t w f s m
    unfolding arrived leg_at choice_on departures_in
    arrived_there s m = sum_below-agree (coming there w f s m) (coming t w f s m) (departures_in t)
        (record { each = λ d below. ap (λ n. if ((leg_of t (leg_at t d)).to == s) && nat_le n m then w (pair_on t d f) else 0) (ready_there (pair_on t d f)) })

    excess_there : (s m : ℕ) → excess there w f s m ≡ excess t w f s m
    unfolding excess
    excess_there s m = let left = departed_there s m in let came = arrived_there s m in cc

    need_there : (s : ℕ) → need_of there w f s ≡ need_of t w f s
    unfolding need_of period_of
    need_there s = max_below-agree (excess there w f s) (excess t w f s) (period_of t) (record { each = λ m below. excess_there s m })

    stand_there : (s m : ℕ) → stand_of there w f s m ≡ stand_of t w f s m
    unfolding stand_of
    stand_there s m = let need = need_there s in let left = departed_there s m in let came = arrived_there s m in cc

    laps_flown_there : laps_flown there w f ≡ laps_flown t w f
    unfolding laps_flown leg_at choice_on departures_in
    laps_flown_there = sum_below-agree (laps_at there w f) (laps_at t w f) (departures_in t)
        (record { each = λ d below. ap (λ n. w (pair_on t d f) * n) (laps_there (pair_on t d f)) })

    used_there : used_of there w f ≡ used_of t w f
    unfolding used_of
    used_there =
        ap (λ n. n + laps_flown there w f) (sum_below-agree (need_of there w f) (need_of t w f) (stations_in t) (record { each = λ s below. need_there s }))
        ∙ ap (λ n. sum_below (need_of t w f) (stations_in t) + n) laps_flown_there

  parked_there : (w : Weights) (s d : ℕ) → parked there w s d ≡ parked t w s d
  unfolding parked
  parked_there w s d =
      ap (sum_below (λ f. stand_of there w f s (day_end d))) (fleets_before t fleet count)
      ∙ sum_below-agree (λ f. stand_of there w f s (day_end d)) (λ f. stand_of t w f s (day_end d)) (fleets_in t) (record { each = λ f below. stand_there w f s (day_end d) })

  choices_there : (l : ℕ) → choices_in there l ≡ choices_in t l
  unfolding choices_in
  choices_there l = ap (λ n. n * shifts_in t l + (if t.optional then 1 else 0)) (fleets_before t fleet count)

  cost_there : (p : Pair) → cost_of there p ≡ cost_of t p
  unfolding cost_of fleet_by slot_by
  cost_there p = ap (λ n. if nat_lt (fleet_by t p) n then flown_cost t p else if p.choice == n * shifts_in t p.leg then (leg_of t p.leg).skip else None) (fleets_before t fleet count)

  total_cost_there : (a : List ℕ) → total_cost there a ≡ total_cost t a
  unfolding total_cost
  total_cost_there a = sum_below_ℤ-same (leg_cost there a) (leg_cost t a) (legs_in t) (λ l below. ap (λ cost. unwrap_or cost (pos 0)) (cost_there (pair_at a l)))

-- ---- .. and of all such tables
module _ (t : Tables) (fleet count : ℕ) (u : Tables) (is : IsOtherSize t fleet count u) where
  pub legs_same : legs_in u ≡ legs_in t
  legs_same = ap length is.legs

  pub stations_same : stations_in u ≡ stations_in t
  stations_same = ap length is.stations

  pub fleets_same : fleets_in u ≡ fleets_in t
  fleets_same = ap length is.fleets ∙ fleets_before t fleet count

  pub aircraft_there : fleet < fleets_in t → (fleet_of u fleet).aircraft ≡ count
  aircraft_there known = ap (λ x. x.aircraft) (ap (λ fs. slice_index_or fs fleet no_fleet) is.fleets ∙ get_or-set_same t.fleets fleet _ no_fleet known)

  pub aircraft_elsewhere : (f : ℕ) → f ≢ fleet → fleet_of u f ≡ fleet_of t f
  aircraft_elsewhere f other = ap (λ fs. slice_index_or fs f no_fleet) is.fleets ∙ get_or-set_other t.fleets fleet f _ no_fleet other

  pub choices_same : (l : ℕ) → choices_in u l ≡ choices_in t l
  choices_same l = of_sized t fleet count (λ x. choices_in x l ≡ choices_in t l) (λ fits. choices_there t fleet count fits l) u is

  pub period_same : period_of u ≡ period_of t
  unfolding period_of
  period_same = ap (λ settings. settings.period * MINUTES_PER_DAY) is.settings

  pub days_same : days_in u ≡ days_in t
  unfolding days_in
  days_same = ap (λ settings. settings.period) is.settings

  pub cost_same : cost_of u ≡ cost_of t
  cost_same = of_sized t fleet count (λ x. cost_of x ≡ cost_of t) (λ fits. fun_ext (cost_there t fleet count fits)) u is

  pub departure_same : departure u ≡ departure t
  unfolding departure slot_by
  departure_same = of_sized t fleet count (λ x. departure x ≡ departure t) (λ fits. refl) u is

  pub fleet_by_same : fleet_by u ≡ fleet_by t
  unfolding fleet_by
  fleet_by_same = of_sized t fleet count (λ x. fleet_by x ≡ fleet_by t) (λ fits. refl) u is

  pub ready_same : ready_minute u ≡ ready_minute t
  ready_same = of_sized t fleet count (λ x. ready_minute x ≡ ready_minute t) (λ fits. fun_ext (ready_there t fleet count fits)) u is

  pub laps_same : laps_of u ≡ laps_of t
  laps_same = of_sized t fleet count (λ x. laps_of x ≡ laps_of t) (λ fits. fun_ext (laps_there t fleet count fits)) u is

  module _ (w : Weights) where
    pub departed_same : (f s m : ℕ) → departed u w f s m ≡ departed t w f s m
    departed_same f s m = of_sized t fleet count (λ x. departed x w f s m ≡ departed t w f s m) (λ fits. departed_there t fleet count fits w f s m) u is

    pub arrived_same : (f s m : ℕ) → arrived u w f s m ≡ arrived t w f s m
    arrived_same f s m = of_sized t fleet count (λ x. arrived x w f s m ≡ arrived t w f s m) (λ fits. arrived_there t fleet count fits w f s m) u is

    pub used_same : (f : ℕ) → used_of u w f ≡ used_of t w f
    used_same f = of_sized t fleet count (λ x. used_of x w f ≡ used_of t w f) (λ fits. used_there t fleet count fits w f) u is

    pub parked_same : (s d : ℕ) → parked u w s d ≡ parked t w s d
    parked_same s d = of_sized t fleet count (λ x. parked x w s d ≡ parked t w s d) (λ fits. parked_there t fleet count fits w s d) u is

  -- ---- assignments
  pub assignment_same : (a : List ℕ) → IsAssignment t a → IsAssignment u a
  assignment_same a was = record {
    each_leg = was.each_leg ∙ sym legs_same;
    known = λ l below. subst (λ n. choice_at a l < n) (sym (choices_same l)) (was.known l (subst (λ n. l < n) legs_same below));
  }

  pub allowed_same : (a : List ℕ) → IsAllowed t a → IsAllowed u a
  allowed_same a was = record { each = λ l below. subst (λ cost. IsSome (cost (pair_at a l))) (sym cost_same) (was.each l (subst (λ n. l < n) legs_same below)) }

  pub balanced_same : (w : Weights) → IsBalanced t w → IsBalanced u w
  balanced_same w was = record {
    each = λ f s known at. subst (λ n. arrived u w f s (n - 1) ≡ departed u w f s (n - 1)) (sym period_same)
        (arrived_same w f s (last_of t) ∙ was.each f s (subst (λ n. f < n) fleets_same known) (subst (λ n. s < n) stations_same at) ∙ sym (departed_same w f s (last_of t)));
  }

  pub parking_same : (s : ℕ) → parking_of u s ≡ parking_of t s
  unfolding parking_of
  parking_same s = of_sized t fleet count (λ x. parking_of x s ≡ parking_of t s) (λ fits. refl) u is

  pub room_same : (scale : ℕ) (w : Weights) → HasRoom t scale w → HasRoom u scale w
  room_same scale w was = record {
    each = λ s d limit at some within limited. subst (λ n. n ≤ scale * limit) (sym (parked_same w s d))
        (was.each s d limit (subst (λ n. s < n) stations_same at) some (subst (λ n. d ≤ n) days_same within) (sym (parking_same s) ∙ limited));
  }

  pub total_cost_same : (a : List ℕ) → total_cost u a ≡ total_cost t a
  total_cost_same a = of_sized t fleet count (λ x. total_cost x a ≡ total_cost t a) (λ fits. total_cost_there t fleet count fits a) u is

  -- ---- kept pairs
  pub all_pairs_same : all_pairs u ≡ all_pairs t
  all_pairs_same = ap (λ (cost : Pair → Option ℤ). λ p. is_some (cost p)) cost_same

  kept_on_same : (keeps : Domains) (l : ℕ) → kept_on u keeps l ≡ kept_on t keeps l
  kept_on_same keeps l = ap (count_below (λ c. keeps (leg_on l c))) (choices_same l)

  pub bare_same : (keeps : Domains) (leg : ℕ) → IsBare t keeps leg → IsBare u keeps leg
  bare_same keeps leg was = record { within = subst (λ n. leg < n) (sym legs_same) was.within; none = kept_on_same keeps leg ∙ was.none }

  pub sole_same : (keeps : Domains) → IsSole t keeps → IsSole u keeps
  sole_same keeps was = record { each = λ l below. kept_on_same keeps l ∙ was.each l (subst (λ n. l < n) legs_same below) }

  pub kept_same : (keeps : Domains) (a : List ℕ) → IsKeptAssignment t keeps a → IsKeptAssignment u keeps a
  kept_same keeps a was = record { assignment = assignment_same a was.assignment; kept = λ l below. was.kept l (subst (λ n. l < n) legs_same below) }
