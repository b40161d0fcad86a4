-- What stays the same where an assignment is settled.
use Rattle.std.proofs.Common.{◌≡◌, ◌==◌, ◌&&◌, ℕ, ◌+◌, ◌-◌, ◌<◌, ◌≤◌, nat_le, Bool, true, false, if◌then◌else◌, List, length, slice_index_or, IsSome, pos, unwrap_or, refl, sym, ap, subst, ◌∙◌, arith}
use Rattle.std.proofs.lemmas.Bool.Decides.{nat_tests}
use Rattle.sums.specs.Below.{count_below, max_below, sum_below, sum_below_ℤ}
use Rattle.sums.proofs.Maxima.{max_below-agree}
use Rattle.sums.proofs.Sums.{sum_below-agree}
use Rattle.sums.proofs.Tests.{by_test}
use Rattle.sums.proofs.WholeSums.{sum_below_ℤ-same}
use Rattle.fleet_model.specs.Counts.{arrived, departed, has_come, has_left, pair_at, weights_of}
use Rattle.fleet_model.specs.Legal.{IsAssignment, IsLegal, leg_cost, total_cost}
use Rattle.fleet_model.specs.Schedule.{day_end, days_in, fleet_by, fleet_of, fleets_in, last_of, leg_of, legs_in, no_fleet, no_station, parking_of, period_of, stations_in}
use Rattle.fleet_model.specs.Times.{departure, laps_of, ready_minute}
use Rattle.fleet_model.specs.Use.{excess, laps_flown, need_of, parked, stand_of, used_of}
use Rattle.fleet_model.specs.declared.parts.Fleet.{Fleet}
use Rattle.fleet_model.specs.declared.parts.Leg.{Leg}
use Rattle.fleet_model.specs.declared.parts.Settings.{Settings}
use Rattle.fleet_model.specs.declared.parts.Station.{Station}
use Rattle.fleet_model.specs.declared.tables.Tables.{Tables}
use Rattle.fleet_model.proofs.Choices.{planned}
use Rattle.fleet_model.proofs.UseLaws.{counts_are_legs}
use Rattle.sched_read.specs.retime_windows.Settled.{IsSettled}
use Rattle.sched_read.specs.retime_windows.SettledLaws.{CountsAlike, SettledCostsAlike, SettledCountsAlike, SettledIsLegal}
use Rattle.sched_read.proofs.retime_windows.SettledPairs.{assigned, departs, lapses, leg_is, readies, same_cost, same_fleet, same_fleets, same_legs, same_period}

-- two tests of which the first is the same, and the second where the first passes
both_alike : (p q p' q' : Bool) → p ≡ p' → (p' ≡ true → q ≡ q') → (p && q) ≡ (p' && q')
both_alike p q true q' same second = rw (same, second refl) refl
both_alike p q false q' same second = rw same refl

module _ (t u : Tables) (a b : List ℕ) (assignment : IsAssignment t a) (settled : IsSettled t a u b) where
  of_u : IsAssignment u b
  of_u = assigned t u a b assignment settled

  by_fleet : (f l : ℕ) → l < legs_in t → (fleet_by u (pair_at b l) == f) ≡ (fleet_by t (pair_at a l) == f)
  by_fleet f l below = ap (λ n. n == f) (same_fleet t u a b assignment settled l below)

  is_flown : (f l : ℕ) → f < fleets_in t → (fleet_by t (pair_at a l) == f) ≡ true → fleet_by t (pair_at a l) < fleets_in t
  is_flown f l known here = let same : fleet_by t (pair_at a l) ≡ f = grind (arith, nat_tests) in omega (arith, same, known)

  known_too : (f : ℕ) → f < fleets_in t → f < fleets_in u
  known_too f known = subst (λ n. f < n) (sym (same_fleets t u a b assignment settled)) known

  leaves : (f s m l : ℕ) → f < fleets_in t → l < legs_in t → ((fleet_by u (pair_at b l) == f) && has_left u (pair_at b l) s m) ≡ ((fleet_by t (pair_at a l) == f) && has_left t (pair_at a l) s m)
  leaves f s m l known below =
      both_alike (fleet_by u (pair_at b l) == f) (has_left u (pair_at b l) s m) (fleet_by t (pair_at a l) == f) (has_left t (pair_at a l) s m) (by_fleet f l below) (λ here.
      ap (λ (leg : Leg). (leg.from == s) && nat_le (departure u (pair_at b l)) m) (leg_is t u a b settled l below)
      ∙ ap (λ n. ((leg_of t l).from == s) && nat_le n m) (departs t u a b assignment settled l below (is_flown f l known here)))

  comes : (f s m l : ℕ) → f < fleets_in t → l < legs_in t → ((fleet_by u (pair_at b l) == f) && has_come u (pair_at b l) s m) ≡ ((fleet_by t (pair_at a l) == f) && has_come t (pair_at a l) s m)
  comes f s m l known below =
      both_alike (fleet_by u (pair_at b l) == f) (has_come u (pair_at b l) s m) (fleet_by t (pair_at a l) == f) (has_come t (pair_at a l) s m) (by_fleet f l below) (λ here.
      ap (λ (leg : Leg). (leg.to == s) && nat_le (ready_minute u (pair_at b l)) m) (leg_is t u a b settled l below)
      ∙ ap (λ n. ((leg_of t l).to == s) && nat_le n m) (readies t u a b assignment settled l below (is_flown f l known here)))

  counted : (p q : ℕ → Bool) → ((l : ℕ) → l < legs_in t → p l ≡ q l) → count_below p (legs_in u) ≡ count_below q (legs_in t)
  counted p q same =
      ap (count_below p) (same_legs t u a b settled)
      ∙ sum_below-agree (λ l. if p l then 1 else 0) (λ l. if q l then 1 else 0) (legs_in t) (record { each = λ l below. ap (λ c. if c then 1 else 0) (same l below) })

  departed_alike : (f s m : ℕ) → f < fleets_in t → departed u (weights_of b) f s m ≡ departed t (weights_of a) f s m
  departed_alike f s m known =
      (counts_are_legs u b f s m of_u (known_too f known)).departures
      ∙ counted (λ l. (fleet_by u (pair_at b l) == f) && has_left u (pair_at b l) s m) (λ l. (fleet_by t (pair_at a l) == f) && has_left t (pair_at a l) s m) (λ l below. leaves f s m l known below)
      ∙ sym (counts_are_legs t a f s m assignment known).departures

  arrived_alike : (f s m : ℕ) → f < fleets_in t → arrived u (weights_of b) f s m ≡ arrived t (weights_of a) f s m
  arrived_alike f s m known =
      (counts_are_legs u b f s m of_u (known_too f known)).arrivals
      ∙ counted (λ l. (fleet_by u (pair_at b l) == f) && has_come u (pair_at b l) s m) (λ l. (fleet_by t (pair_at a l) == f) && has_come t (pair_at a l) s m) (λ l below. comes f s m l known below)
      ∙ sym (counts_are_legs t a f s m assignment known).arrivals

  laps_where : (f l : ℕ) → f < fleets_in t → l < legs_in t → (if fleet_by u (pair_at b l) == f then laps_of u (pair_at b l) else 0) ≡ (if fleet_by t (pair_at a l) == f then laps_of t (pair_at a l) else 0)
  laps_where f l known below =
      ap (λ c. if c then laps_of u (pair_at b l) else 0) (by_fleet f l below)
      ∙ by_test (fleet_by t (pair_at a l) == f) (λ here. rw here (lapses t u a b assignment settled l below (is_flown f l known here))) (λ other. rw other refl)

  laps_alike : (f : ℕ) → f < fleets_in t → laps_flown u (weights_of b) f ≡ laps_flown t (weights_of a) f
  unfolding laps_flown
  laps_alike f known =
      planned u b f of_u (known_too f known) (laps_of u)
      ∙ ap (sum_below (λ l. if fleet_by u (pair_at b l) == f then laps_of u (pair_at b l) else 0)) (same_legs t u a b settled)
      ∙ sum_below-agree (λ l. if fleet_by u (pair_at b l) == f then laps_of u (pair_at b l) else 0) (λ l. if fleet_by t (pair_at a l) == f then laps_of t (pair_at a l) else 0) (legs_in t) (record { each = λ l below. laps_where f l known below })
      ∙ sym (planned t a f assignment known (laps_of t))

  need_alike : (f s : ℕ) → f < fleets_in t → need_of u (weights_of b) f s ≡ need_of t (weights_of a) f s
  unfolding need_of excess
  need_alike f s known =
      ap (max_below (excess u (weights_of b) f s)) (same_period t u a b assignment settled)
      ∙ max_below-agree (excess u (weights_of b) f s) (excess t (weights_of a) f s) (period_of t)
      (record { each = λ m within. ap (λ n. n - arrived u (weights_of b) f s m) (departed_alike f s m known) ∙ ap (λ n. departed t (weights_of a) f s m - n) (arrived_alike f s m known) })

  stand_alike : (f s m : ℕ) → f < fleets_in t → stand_of u (weights_of b) f s m ≡ stand_of t (weights_of a) f s m
  unfolding stand_of
  stand_alike f s m known =
      ap (λ n. n + arrived u (weights_of b) f s m - departed u (weights_of b) f s m) (need_alike f s known)
      ∙ ap (λ n. need_of t (weights_of a) f s + n - departed u (weights_of b) f s m) (arrived_alike f s m known)
      ∙ ap (λ n. need_of t (weights_of a) f s + arrived t (weights_of a) f s m - n) (departed_alike f s m known)

  same_stations : stations_in u ≡ stations_in t
  same_stations = ap length settled.tables.stations

  used_alike : (f : ℕ) → f < fleets_in t → used_of u (weights_of b) f ≡ used_of t (weights_of a) f
  unfolding used_of
  used_alike f known =
      ap (λ n. sum_below (need_of u (weights_of b) f) n + laps_flown u (weights_of b) f) same_stations
      ∙ ap (λ n. n + laps_flown u (weights_of b) f) (sum_below-agree (need_of u (weights_of b) f) (need_of t (weights_of a) f) (stations_in t) (record { each = λ s below. need_alike f s known }))
      ∙ ap (λ n. sum_below (need_of t (weights_of a) f) (stations_in t) + n) (laps_alike f known)

  parked_alike : (s d : ℕ) → parked u (weights_of b) s d ≡ parked t (weights_of a) s d
  unfolding parked
  parked_alike s d =
      ap (sum_below (λ f. stand_of u (weights_of b) f s (day_end d))) (same_fleets t u a b assignment settled)
      ∙ sum_below-agree (λ f. stand_of u (weights_of b) f s (day_end d)) (λ f. stand_of t (weights_of a) f s (day_end d)) (fleets_in t) (record { each = λ f known. stand_alike f s (day_end d) known })

  pub counts_alike : CountsAlike t a u b
  counts_alike = record {
    departures = departed_alike;
    arrivals = arrived_alike;
    laps = laps_alike;
    need = need_alike;
    stands = stand_alike;
    used = used_alike;
    parking = parked_alike;
  }

  -- ---- legal, both ways
  same_last : last_of u ≡ last_of t
  same_last = ap (λ w. w - 1) (same_period t u a b assignment settled)

  same_aircraft : (f : ℕ) → (fleet_of u f).aircraft ≡ (fleet_of t f).aircraft
  same_aircraft f = ap (λ (fleets : List Fleet). (slice_index_or fleets f no_fleet).aircraft) settled.tables.fleets

  same_limit : (s : ℕ) → parking_of u s ≡ parking_of t s
  unfolding parking_of
  same_limit s = ap (λ (stations : List Station). (slice_index_or stations s no_station).parking) settled.tables.stations

  same_days : days_in u ≡ days_in t
  unfolding days_in
  same_days = ap (λ (settings : Settings). settings.period) settled.tables.settings

  into : IsLegal t a → IsLegal u b
  into legal = record {
    assignment = of_u;
    allowed = record {
      each = λ l within.
          let below : l < legs_in t = subst (λ n. l < n) (same_legs t u a b settled) within in
          subst IsSome (sym (same_cost t u a b assignment settled l below)) (legal.allowed.each l below);
    };
    balanced = record {
      each = λ f s known station.
          let f_known : f < fleets_in t = subst (λ n. f < n) (same_fleets t u a b assignment settled) known in
          let s_known : s < stations_in t = subst (λ n. s < n) same_stations station in
          ap (arrived u (weights_of b) f s) same_last ∙ arrived_alike f s (last_of t) f_known ∙ legal.balanced.each f s f_known s_known
          ∙ sym (ap (departed u (weights_of b) f s) same_last ∙ departed_alike f s (last_of t) f_known);
    };
    within = record {
      each = λ f known.
          let f_known : f < fleets_in t = subst (λ n. f < n) (same_fleets t u a b assignment settled) known in
          omega (arith, used_alike f f_known, same_aircraft f, legal.within.each f f_known);
    };
    room = record {
      each = λ s d limit station some within is.
          omega (arith, parked_alike s d, legal.room.each s d limit (subst (λ n. s < n) same_stations station) some (subst (λ n. d ≤ n) same_days within) (sym (same_limit s) ∙ is));
    };
  }

  back : IsLegal u b → IsLegal t a
  back legal = record {
    assignment = assignment;
    allowed = record {
      each = λ l below. subst IsSome (same_cost t u a b assignment settled l below) (legal.allowed.each l (subst (λ n. l < n) (sym (same_legs t u a b settled)) below));
    };
    balanced = record {
      each = λ f s known station.
          sym (ap (arrived u (weights_of b) f s) same_last ∙ arrived_alike f s (last_of t) known) ∙ legal.balanced.each f s (known_too f known) (subst (λ n. s < n) (sym same_stations) station)
          ∙ ap (departed u (weights_of b) f s) same_last ∙ departed_alike f s (last_of t) known;
    };
    within = record { each = λ f known. omega (arith, used_alike f known, same_aircraft f, legal.within.each f (known_too f known)) };
    room = record {
      each = λ s d limit station some within is.
          omega (arith, parked_alike s d, legal.room.each s d limit (subst (λ n. s < n) (sym same_stations) station) some (subst (λ n. d ≤ n) (sym same_days) within) (same_limit s ∙ is));
    };
  }

  costs_alike : total_cost u b ≡ total_cost t a
  unfolding total_cost
  costs_alike =
      ap (sum_below_ℤ (leg_cost u b)) (same_legs t u a b settled)
      ∙ sum_below_ℤ-same (leg_cost u b) (leg_cost t a) (legs_in t) (λ l below. ap (λ o. unwrap_or o (pos 0)) (same_cost t u a b assignment settled l below))

pub settled_counts_alike : SettledCountsAlike
settled_counts_alike t u a b assignment settled = counts_alike t u a b assignment settled

pub settled_is_legal : SettledIsLegal
settled_is_legal t u a b assignment settled = (back t u a b assignment settled, into t u a b assignment settled)

pub settled_costs_alike : SettledCostsAlike
settled_costs_alike t u a b assignment settled = costs_alike t u a b assignment settled
