-- All legs of made tables on the first fleet are a legal assignment.
use Rattle.std.proofs.Common.{◌≡◌, ◌==◌, ℕ, zero, suc, ◌+◌, ◌*◌, ◌/◌, ◌%◌, ◌<◌, ◌≤◌, Bool, true, false, not, nat_lt, List, [], length, IsSome, None, is_some, refl, sym, ap, ◌∙◌, add-one, arith}
use Rattle.std.specs.Prelude.{◌&&◌, if◌then◌else◌}
use Rattle.std.proofs.lemmas.Bool.Decides.{nat_tests}
use Rattle.std.proofs.lemmas.List.{length-replicate}
use Rattle.fleet_model.specs.Costs.{no_cost}
use Rattle.fleet_model.specs.Counts.{arrived, departed, choice_at, weights_of}
use Rattle.fleet_model.specs.Legal.{IsAllowed, IsAssignment, IsLegal, cost_of}
use Rattle.fleet_model.specs.Limits.{AreSettings}
use Rattle.fleet_model.specs.Plain.{IsPlain}
use Rattle.fleet_model.specs.Schedule.{days_in, fleet_of, last_of, leg_of, leg_on, legs_in, no_leg, no_station, parking_of, shifts_in, station_of, stations_in}
use Rattle.fleet_model.specs.Times.{busy_minutes, departure, laps_of}
use Rattle.fleet_model.specs.Use.{laps_flown, used_of}
use Rattle.fleet_model.specs.Period.{day_of_minute, minute_of_day, minutes_of}
use Rattle.fleet_model.specs.declared.parts.Connection.{Connection}
use Rattle.fleet_model.specs.declared.parts.Leg.{Leg}
use Rattle.fleet_model.specs.declared.parts.Settings.{Settings}
use Rattle.fleet_model.specs.declared.parts.Station.{Station}
use Rattle.fleet_model.specs.declared.tables.Tables.{Tables}
use Rattle.fleet_model.proofs.Choices.{nothing_parked}
use Rattle.fleet_model.proofs.CostLookup.{cost_found}
use Rattle.fleet_model.proofs.Departures.{some_times}
use Rattle.fleet_model.proofs.LeftOut.{block_kept}
use Rattle.fleet_model.proofs.NotAsked.{plain_where_not_asked}
use Rattle.fleet_model.proofs.OneDay.{period_is_day, plain_departure}
use Rattle.fleet_model.proofs.PlainTables.{fleet_chooses, plain_fleet, plain_laps}
use Rattle.lines_of_flying.specs.ground_turns.Maps.{IsNext, IsSuccessorMap, crossings_of, no_turn, periods_of, turn_to_next, turns_by}
use Rattle.lines_of_flying.specs.ground_turns.Turns.{crosses}
use Rattle.lines_of_flying.proofs.ground_turns.FleetTurns.{next_is_map}
use Rattle.lines_of_flying.proofs.ground_turns.Fits.{balances, periods_beyond_use}
use Rattle.sched_read.specs.Legs.{from_day_start}
use Rattle.sums.specs.Below.{sum_below}
use Rattle.sums.specs.Places.{list_below}
use Rattle.sums.proofs.Places.{get_or-list_below, length-list_below, list_below-more}
use Rattle.sums.proofs.Sums.{sum_below-add, sum_below-agree, sum_below-zero}
use Rattle.table_maker.specs.Fields.{flight_name, is_out}
use Rattle.table_maker.specs.Laws.{all_on_first}
use Rattle.table_maker.specs.Trips.{trip_of}
use Rattle.table_maker.specs.declared.trips.RoundTrip.{RoundTrip}
use Rattle.sums.proofs.Lists.{zero_at}
use Rattle.sums.proofs.Terms.{one_each}
use Rattle.table_maker.proofs.MadeEntries.{AreTrips, cost_entry, flown, leg_entry, station_entry}
use Rattle.table_maker.proofs.MadeSchedule.{made_schedule, stations_for}
use Rattle.table_maker.proofs.RoundTurns.{back_half, back_partner, back_way, later, one_period, out_half, out_partner, out_way, partner, partner_half, partner_once, partner_way, partner_within}

-- where a leg of a round trip lands, the other leaves
meet : (out other : Bool) (trip same : RoundTrip) → other ≡ not out → same ≡ trip → (if out then suc trip.spoke else 0) ≡ (if other then 0 else suc same.spoke)
meet true other trip same way is = rw way (ap (λ (one : RoundTrip). suc one.spoke) (sym is))
meet false other trip same way is = rw way refl

-- two legs of a round trip by what is said of each: one period passes
adds : (out back next first busy_out busy_back dep block stay : ℕ) → out ≡ dep → first ≡ out → back ≡ minute_of_day (dep + (block + stay)) → next ≡ back
    → busy_out ≡ block + 30 → busy_back ≡ block + 30
    → dep < minutes_of 1 → block ≤ 180 → 60 ≤ stay → stay ≤ 120
    → (day_of_minute (out + busy_out) + (if nat_lt next (minute_of_day (out + busy_out)) then 1 else 0))
    + (day_of_minute (back + busy_back) + (if nat_lt first (minute_of_day (back + busy_back)) then 1 else 0)) ≡ 1
adds out back next first busy_out busy_back dep block stay out_is first_is back_is next_is busy_is busy_too within short least most =
    rw (next_is, first_is, busy_is, busy_too, back_is, out_is) (one_period dep block stay within short least most)

-- which costs are of a leg on the first fleet
not_before : (l k : ℕ) → k < 2 * l → ((k / 2 == l) && (k % 2 == 0)) ≡ false
not_before l k before = grind (arith, nat_tests)

there : (l : ℕ) → ((2 * l / 2 == l) && (2 * l % 2 == 0)) ≡ true
there l = grind (arith, nat_tests)

first_choice : (times : ℕ) → 0 ≡ 0 * times + 0
first_choice times = omega arith

module _ (trips : List RoundTrip) (settings : Settings) (one : settings.period ≡ 1) (are : AreTrips trips) (settings_fit : AreSettings settings) where
  abbrev t : Tables
  t = made_schedule trips settings one are settings_fit

  one_day : days_in t ≡ 1
  unfolding days_in
  one_day = one

  plain : IsPlain t
  plain = plain_where_not_asked t refl

  abbrev n : ℕ
  n = length trips

  abbrev a : List ℕ
  a = all_on_first (2 * n)

  legs_are : legs_in t ≡ 2 * n
  legs_are = length-list_below (leg_entry settings trips) (2 * n)

  leg_is : (l : ℕ) → l < 2 * n → leg_of t l ≡ leg_entry settings trips l
  leg_is l within = get_or-list_below (leg_entry settings trips) (2 * n) l no_leg within

  on_first : (l : ℕ) → choice_at a l ≡ 0
  on_first l = zero_at (2 * n) l

  assigned : IsAssignment t a
  assigned = record { each_leg = length-replicate (2 * n) 0 ∙ sym legs_are; known = λ l within. rw (on_first l) (fleet_chooses t l 0 (omega arith)) }

  -- each leg has a cost on the first fleet
  has_cost : (l : ℕ) → l < 2 * n → IsSome (cost_of t (leg_on l 0))
  has_cost l within =
      let entry = cost_entry trips in
      let inside : 2 * l < 4 * n = omega arith in
      let found = cost_found (list_below entry (4 * n)) l 0 (2 * l) (omega (arith, length-list_below entry (4 * n))) (rw (get_or-list_below entry (4 * n) (2 * l) no_cost inside) (there l))
      (record { each = λ k below. let early : k < 4 * n = omega arith in rw (get_or-list_below entry (4 * n) k no_cost early) (not_before l k below) }) in
      ap (λ c. is_some (cost_of t (leg_on l c))) (first_choice (shifts_in t l)) ∙ block_kept t l 0 0 (omega arith) (some_times t l) ∙ ap is_some found

  allowed : IsAllowed t a
  allowed = record { each = λ l within. rw (on_first l) (has_cost l (omega (arith, legs_are, within))) }

  -- each leg is followed by the other one of its round trip
  is_next : IsNext t a 0 partner
  is_next = record {
    turn = λ l within flies.
        let here : l < 2 * n = omega (arith, legs_are, within) in
        let other : partner l < 2 * n = partner_within n l here in
        record {
          arriving = within;
          departing = omega (arith, legs_are, other);
          comes_on = on_first l;
          leaves_on = on_first (partner l);
          meets = ap (λ (leg : Leg). leg.to) (leg_is l here)
              ∙ meet (is_out l) (is_out (partner l)) (trip_of trips (l / 2)) (trip_of trips (partner l / 2)) (partner_way l) (ap (trip_of trips) (partner_half l))
              ∙ sym (ap (λ (leg : Leg). leg.from) (leg_is (partner l) other));
        };
    once = λ l k within there flies flies_too same. partner_once l k same;
  }

  abbrev turns : List Connection
  turns = turns_by a 0 partner (legs_in t)

  first_map : IsSuccessorMap t a 0 turns
  first_map = next_is_map t a 0 partner plain is_next

  turns_are : (m : ℕ) → turns_by a 0 partner m ≡ list_below (turn_to_next partner) m
  turns_are zero = refl
  turns_are (suc m) = rw (on_first m, turns_are m) (sym (list_below-more (turn_to_next partner) m) ∙ ap (list_below (turn_to_next partner)) (add-one m))

  abbrev crosses_after : ℕ → ℕ
  crosses_after l = if crosses t 0 (turn_to_next partner l) then 1 else 0

  abbrev add : ℕ → ℕ
  add l = laps_of t (leg_on l 0) + crosses_after l

  crossings_by_leg : (m : ℕ) → crossings_of t 0 (turns_by a 0 partner m) ≡ sum_below crosses_after m
  crossings_by_leg m =
      ap (crossings_of t 0) (turns_are m)
      ∙ rw (length-list_below (turn_to_next partner) m) (sum_below-agree _ crosses_after m (record { each = λ k below. rw (get_or-list_below (turn_to_next partner) m k no_turn below) refl }))

  laps_by_leg : laps_flown t (weights_of a) 0 ≡ sum_below (λ l. laps_of t (leg_on l 0)) (legs_in t)
  laps_by_leg =
      plain_laps t (weights_of a) 0 plain
      ∙ sum_below-agree (λ l. weights_of a (leg_on l 0) * laps_of t (leg_on l 0)) (λ l. laps_of t (leg_on l 0)) (legs_in t) (record { each = λ l below. rw (on_first l) (omega arith) })

  -- a leg is busy for its flight and the turn
  busy_is : (l : ℕ) → l < 2 * n → busy_minutes t (leg_on l 0) ≡ (leg_of t l).block + 30
  busy_is l within =
      let lands : (leg_of t l).to < stations_in t = (t.in_range.legs_fit.each l no_leg (omega (arith, legs_are, within))).to in
      let known : (leg_of t l).to < stations_for trips = omega (arith, lands, length-list_below station_entry (stations_for trips)) in
      let extra : (station_of t (leg_of t l).to).extra ≡ 0 = rw (get_or-list_below station_entry (stations_for trips) (leg_of t l).to no_station known) refl in
      rw (plain_fleet t l 0 plain) (omega (arith, extra))

  out_is : (i : ℕ) → i < n → leg_of t (2 * i) ≡ flown settings (flight_name (2 * i)) true (trip_of trips i)
  out_is i within =
      leg_is (2 * i) (omega arith) ∙ ap (λ out. flown settings (flight_name (2 * i)) out (trip_of trips (2 * i / 2))) (out_way i)
      ∙ ap (λ k. flown settings (flight_name (2 * i)) true (trip_of trips k)) (out_half i)

  back_is : (i : ℕ) → i < n → leg_of t (2 * i + 1) ≡ flown settings (flight_name (2 * i + 1)) false (trip_of trips i)
  back_is i within =
      leg_is (2 * i + 1) (omega arith) ∙ ap (λ out. flown settings (flight_name (2 * i + 1)) out (trip_of trips ((2 * i + 1) / 2))) (back_way i)
      ∙ ap (λ k. flown settings (flight_name (2 * i + 1)) false (trip_of trips k)) (back_half i)

  -- what a leg adds, on one day
  adding : ℕ → ℕ → ℕ → ℕ → ℕ
  adding out next busy minutes = (out + busy) / minutes + (if nat_lt next ((out + busy) % minutes) then 1 else 0)

  adds_by_day : (l : ℕ) → add l ≡ adding (leg_of t l).dep (leg_of t (partner l)).dep (busy_minutes t (leg_on l 0)) (minutes_of 1)
  unfolding adding
  adds_by_day l =
      ap (λ minutes. adding (departure t (leg_on l 0)) (departure t (leg_on (partner l) 0)) (busy_minutes t (leg_on l 0)) minutes) (period_is_day t one_day)
      ∙ ap (λ out. adding out (departure t (leg_on (partner l) 0)) (busy_minutes t (leg_on l 0)) (minutes_of 1)) (plain_departure t l 0 plain)
      ∙ ap (λ next. adding (leg_of t l).dep next (busy_minutes t (leg_on l 0)) (minutes_of 1)) (plain_departure t (partner l) 0 plain)

  trip_adds : (i : ℕ) → i < n → add (2 * i) + add (2 * i + 1) ≡ 1
  unfolding adding
  trip_adds i within =
      let trip = trip_of trips i in
      let fits = are.each i within in
      let dep = from_day_start settings (minute_of_day trip.departs) in
      let returns : (leg_of t (2 * i + 1)).dep ≡ minute_of_day (dep + (trip.block + trip.stay)) =
      ap (λ (leg : Leg). leg.dep) (back_is i within)
      ∙ ap (λ m. from_day_start settings (minute_of_day m)) (omega arith)
      ∙ later trip.departs (trip.block + trip.stay) settings.day_start settings_fit.day_start in
      let busy_out : busy_minutes t (leg_on (2 * i) 0) ≡ trip.block + 30 = busy_is (2 * i) (omega arith) ∙ ap (λ (leg : Leg). leg.block + 30) (out_is i within) in
      let busy_back : busy_minutes t (leg_on (2 * i + 1) 0) ≡ trip.block + 30 = busy_is (2 * i + 1) (omega arith) ∙ ap (λ (leg : Leg). leg.block + 30) (back_is i within) in
      ap (λ x. x + add (2 * i + 1)) (adds_by_day (2 * i))
      ∙ ap (λ x. adding (leg_of t (2 * i)).dep (leg_of t (partner (2 * i))).dep (busy_minutes t (leg_on (2 * i) 0)) (minutes_of 1) + x) (adds_by_day (2 * i + 1))
      ∙ adds (leg_of t (2 * i)).dep (leg_of t (2 * i + 1)).dep (leg_of t (partner (2 * i))).dep (leg_of t (partner (2 * i + 1))).dep
      (busy_minutes t (leg_on (2 * i) 0)) (busy_minutes t (leg_on (2 * i + 1) 0)) dep trip.block trip.stay
      (ap (λ (leg : Leg). leg.dep) (out_is i within)) (ap (λ l. (leg_of t l).dep) (back_partner i)) returns (ap (λ l. (leg_of t l).dep) (out_partner i)) busy_out busy_back
      (omega arith) fits.block_most fits.stay_least fits.stay_most

  first_periods : periods_of t a 0 turns ≡ n
  first_periods =
      let both = sum_below-add (λ l. laps_of t (leg_on l 0)) crosses_after (2 * n) in
      let all = one_each add n trip_adds in
      let crossings = crossings_by_leg (legs_in t) in
      let laps = laps_by_leg in
      let counted : sum_below crosses_after (legs_in t) ≡ sum_below crosses_after (2 * n) = ap (sum_below crosses_after) legs_are in
      let lapped : sum_below (λ l. laps_of t (leg_on l 0)) (legs_in t) ≡ sum_below (λ l. laps_of t (leg_on l 0)) (2 * n) = ap (sum_below (λ l. laps_of t (leg_on l 0))) legs_are in
      omega (arith, both, all, crossings, laps, counted, lapped)

  -- the second fleet flies nothing
  second_map : IsSuccessorMap t a 1 []
  second_map = record {
    plain = plain;
    each = λ k below. absurd (omega (arith, below));
    arrives = λ l within. rw (on_first l) refl;
    departs = λ l within. rw (on_first l) refl;
  }

  no_laps : laps_flown t (weights_of a) 1 ≡ 0
  no_laps =
      plain_laps t (weights_of a) 1 plain
      ∙ sum_below-agree (λ l. weights_of a (leg_on l 1) * laps_of t (leg_on l 1)) (λ l. 0) (legs_in t) (record { each = λ l below. rw (on_first l) (omega arith) }) ∙ sum_below-zero (legs_in t)

  used_within : (f : ℕ) → f < 2 → used_of t (weights_of a) f ≤ (fleet_of t f).aircraft
  used_within zero known = (let law = periods_beyond_use t a 0 turns first_map in omega (arith, law, first_periods))
  used_within (suc zero) known = (let law = periods_beyond_use t a 1 [] second_map in omega (arith, law, no_laps))
  used_within (suc (suc f)) known = absurd (omega arith)

  balanced_fleet : (f s : ℕ) → f < 2 → arrived t (weights_of a) f s (last_of t) ≡ departed t (weights_of a) f s (last_of t)
  balanced_fleet zero s known = balances t a 0 turns first_map s
  balanced_fleet (suc zero) s known = balances t a 1 [] second_map s
  balanced_fleet (suc (suc f)) s known = absurd (omega arith)

  no_limit : (s : ℕ) → s < stations_in t → parking_of t s ≡ None
  unfolding parking_of
  no_limit s known = ap (λ (x : Station). x.parking) (get_or-list_below station_entry (stations_for trips) s no_station (omega (arith, known, length-list_below station_entry (stations_for trips))))

  pub all_legal : IsLegal t a
  all_legal = record {
    assignment = assigned;
    allowed = allowed;
    balanced = record { each = λ f s known station. balanced_fleet f s known };
    within = record { each = λ f known. used_within f known };
    room = nothing_parked t 1 (weights_of a) no_limit;
  }
