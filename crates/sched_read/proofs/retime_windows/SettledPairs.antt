-- A settled assignment leg by leg: the same fleet, at the same minutes, at the same cost.
use Rattle.std.proofs.Common.{◌≡◌, ◌==◌, ℕ, ◌+◌, ◌*◌, ◌/◌, ◌%◌, ◌<◌, ◌≤◌, nat_lt, Bool, true, false, if◌then◌else◌, List, [], ◌∷◌, length, map, slice_index_or, Option, None, Some, ℤ, pos, ◌+ℤ◌, refl, sym, ap, subst, ◌∙◌, inl, inr, arith}
use Rattle.std.proofs.lemmas.Bool.{cases_lt, lt-ltb}
use Rattle.std.proofs.lemmas.Bool.Decides.{nat_tests}
use Rattle.std.proofs.lemmas.Int.{ints}
use Rattle.sums.proofs.Naturals.{equal_number}
use Rattle.sums.proofs.Places.{get_or-list_below, length-list_below}
use Rattle.sums.proofs.Tests.{by_test}
use Rattle.fleet_model.specs.Costs.{cost_in, is_of}
use Rattle.fleet_model.specs.Counts.{choice_at, pair_at}
use Rattle.fleet_model.specs.Legal.{IsAssignment, cost_of, flown_cost, raised}
use Rattle.fleet_model.specs.Period.{minutes_of}
use Rattle.fleet_model.specs.Plain.{IsPlain}
use Rattle.fleet_model.specs.Schedule.{IsPair, choices_in, fleet_by, fleet_of, fleets_in, left_out, leg_of, legs_in, no_fleet, no_leg, no_station, period_of, shift_by, shifts_in, station_of}
use Rattle.fleet_model.specs.Times.{busy_minutes, departure, laps_of, ready_minute}
use Rattle.fleet_model.specs.Windows.{own_shift}
use Rattle.fleet_model.specs.declared.parts.Fleet.{Fleet}
use Rattle.fleet_model.specs.declared.parts.Leg.{Leg}
use Rattle.fleet_model.specs.declared.parts.PairCost.{PairCost}
use Rattle.fleet_model.specs.declared.parts.Settings.{Settings}
use Rattle.fleet_model.specs.declared.parts.Station.{Station}
use Rattle.fleet_model.specs.declared.shifts.Shift.{Shift}
use Rattle.fleet_model.specs.declared.tables.Tables.{Tables}
use Rattle.fleet_model.proofs.FewChoices.{few_fleets}
use Rattle.fleet_model.proofs.LeftOut.{flown_before, last_choice}
use Rattle.fleet_model.proofs.NotAsked.{plain_where_not_asked}
use Rattle.fleet_model.proofs.OneDay.{plain_departure}
use Rattle.fleet_model.proofs.PlainTables.{one_time, plain_fleet}
use Rattle.sched_read.specs.retime_windows.Settled.{IsSettled, settled_cost, settled_leg, time_of}
use Rattle.sched_read.proofs.retime_windows.SettledFit.{plain_time, settled_at}

-- a cost of the list, raised by what the time of its leg costs
pub cost_raised : (t : Tables) (a : List ℕ) (costs : List PairCost) (l f : ℕ) → cost_in (map (settled_cost t a) costs) l f ≡ raised (cost_in costs l f) (time_of t (pair_at a l)).extra
cost_raised t a [] l f = refl
cost_raised t a (entry ∷ costs) l f = by_test (is_of l f entry) (λ here.
    let leg : entry.leg ≡ l = grind (arith, nat_tests) in
    rw here (ap (λ k. Some (entry.cost +ℤ (time_of t (pair_at a k)).extra)) leg)) (λ other. rw other (cost_raised t a costs l f))

pub no_more : (n : ℤ) → n +ℤ pos 0 ≡ n
no_more n = omega (arith, ints)

module _ (t u : Tables) (a b : List ℕ) (settled : IsSettled t a u b) where
  pub same_legs : legs_in u ≡ legs_in t
  same_legs = ap length settled.tables.legs ∙ length-list_below (settled_leg t a) (legs_in t)

  pub leg_is : (l : ℕ) → l < legs_in t → leg_of u l ≡ settled_leg t a l
  leg_is l below = ap (λ (legs : List Leg). slice_index_or legs l no_leg) settled.tables.legs ∙ settled_at t a l no_leg below

module _ (t u : Tables) (a b : List ℕ) (assignment : IsAssignment t a) (settled : IsSettled t a u b) where
  pub same_fleets : fleets_in u ≡ fleets_in t
  same_fleets = ap length settled.tables.fleets

  pub plain : IsPlain u
  plain = plain_where_not_asked u settled.tables.windows

  pub same_period : period_of u ≡ period_of t
  unfolding period_of
  same_period = ap (λ (settings : Settings). minutes_of settings.period) settled.tables.settings

  pub choice_is : (l : ℕ) → l < legs_in t → choice_at b l ≡ fleet_by t (pair_at a l)
  choice_is l below = ap (λ plan. choice_at plan l) settled.plan ∙ get_or-list_below (λ k. fleet_by t (pair_at a k)) (legs_in t) l 0 below

  -- the same fleet, and the same legs left out
  pub same_fleet : (l : ℕ) → l < legs_in t → fleet_by u (pair_at b l) ≡ fleet_by t (pair_at a l)
  same_fleet l below = plain_fleet u l (choice_at b l) plain ∙ choice_is l below

  is_pair : (l : ℕ) → l < legs_in t → IsPair t (pair_at a l)
  is_pair l below = record { leg = below; choice = assignment.known l below }

  -- a choice of the settled tables
  bounded : (o : Bool) → (fleet fleets : ℕ) → (o ≡ false → fleet < fleets) → fleet ≤ fleets → fleet < fleets * 1 + (if o then 1 else 0)
  bounded true fleet fleets flown few = omega (arith, few)
  bounded false fleet fleets flown few = omega (arith, flown refl)

  flown_where_not_asked : (l : ℕ) → l < legs_in t → t.optional ≡ false → fleet_by t (pair_at a l) < fleets_in t
  unfolding choices_in
  flown_where_not_asked l below none =
      let known : choice_at a l < left_out t l + (if t.optional then 1 else 0) = assignment.known l below in
      let before : choice_at a l < left_out t l = omega (arith, subst (λ o. choice_at a l < left_out t l + (if o then 1 else 0)) none known) in
      flown_before t l (choice_at a l) before

  pub assigned : IsAssignment u b
  unfolding choices_in
  assigned = record {
    each_leg = ap length settled.plan ∙ length-list_below (λ k. fleet_by t (pair_at a k)) (legs_in t) ∙ sym (same_legs t u a b settled);
    known = λ l within.
        let below : l < legs_in t = subst (λ n. l < n) (same_legs t u a b settled) within in
        let most = bounded t.optional (fleet_by t (pair_at a l)) (fleets_in t) (flown_where_not_asked l below) (few_fleets t (pair_at a l) (is_pair l below)) in
        let choices : fleets_in u * shifts_in u l + (if u.optional then 1 else 0) ≡ fleets_in t * 1 + (if t.optional then 1 else 0) =
        ap (λ n. n * shifts_in u l + (if u.optional then 1 else 0)) same_fleets ∙ ap (λ n. fleets_in t * n + (if u.optional then 1 else 0)) (one_time u plain l)
        ∙ ap (λ o. fleets_in t * 1 + (if o then 1 else 0)) settled.tables.optional in
        omega (arith, choice_is l below, most, choices);
  }

  -- ---- a flown leg departs and lands at the same minutes
  flown_time : (l : ℕ) → fleet_by t (pair_at a l) < fleets_in t → time_of t (pair_at a l) ≡ shift_by t (pair_at a l)
  flown_time l flown = ap (λ c. if c then shift_by t (pair_at a l) else own_shift (leg_of t l).dep) (lt-ltb (fleet_by t (pair_at a l)) (fleets_in t) flown)

  pub departs : (l : ℕ) → l < legs_in t → fleet_by t (pair_at a l) < fleets_in t → departure u (pair_at b l) ≡ departure t (pair_at a l)
  unfolding departure
  departs l below flown =
      plain_departure u l (choice_at b l) plain ∙ ap (λ (leg : Leg). leg.dep) (leg_is t u a b settled l below) ∙ ap (λ (time : Shift). time.dep) (flown_time l flown)

  pub busy : (l : ℕ) → l < legs_in t → busy_minutes u (pair_at b l) ≡ busy_minutes t (pair_at a l)
  busy l below =
      ap (λ (leg : Leg). leg.block + (fleet_of u (fleet_by u (pair_at b l))).turn + (station_of u leg.to).extra) (leg_is t u a b settled l below)
      ∙ ap (λ f. (leg_of t l).block + (fleet_of u f).turn + (station_of u (leg_of t l).to).extra) (same_fleet l below)
      ∙ ap (λ (fleets : List Fleet). (leg_of t l).block + (slice_index_or fleets (fleet_by t (pair_at a l)) no_fleet).turn + (station_of u (leg_of t l).to).extra) settled.tables.fleets
      ∙ ap (λ (stations : List Station). (leg_of t l).block + (fleet_of t (fleet_by t (pair_at a l))).turn + (slice_index_or stations (leg_of t l).to no_station).extra) settled.tables.stations

  pub readies : (l : ℕ) → l < legs_in t → fleet_by t (pair_at a l) < fleets_in t → ready_minute u (pair_at b l) ≡ ready_minute t (pair_at a l)
  readies l below flown =
      ap (λ m. (m + busy_minutes u (pair_at b l)) % period_of u) (departs l below flown)
      ∙ ap (λ m. (departure t (pair_at a l) + m) % period_of u) (busy l below)
      ∙ ap (λ w. (departure t (pair_at a l) + busy_minutes t (pair_at a l)) % w) same_period

  pub lapses : (l : ℕ) → l < legs_in t → fleet_by t (pair_at a l) < fleets_in t → laps_of u (pair_at b l) ≡ laps_of t (pair_at a l)
  lapses l below flown =
      ap (λ m. (m + busy_minutes u (pair_at b l)) / period_of u) (departs l below flown)
      ∙ ap (λ m. (departure t (pair_at a l) + m) / period_of u) (busy l below)
      ∙ ap (λ w. (departure t (pair_at a l) + busy_minutes t (pair_at a l)) / w) same_period

  -- ---- each pair costs as much
  own_time : (l : ℕ) → l < legs_in t → fleet_by u (pair_at b l) < fleets_in u → shift_by u (pair_at b l) ≡ own_shift (leg_of u l).dep
  own_time l below flown =
      let within : l < legs_in u = subst (λ n. l < n) (sym (same_legs t u a b settled)) below in
      sym (ap (λ c. if c then shift_by u (pair_at b l) else own_shift (leg_of u l).dep) (lt-ltb (fleet_by u (pair_at b l)) (fleets_in u) flown)) ∙ plain_time u (pair_at b l) within settled.tables.windows

  raised_once : (o : Option ℤ) (more : ℤ) → raised (raised o more) (pos 0) ≡ raised o more
  raised_once None more = refl
  raised_once (Some cost) more = ap Some (no_more (cost +ℤ more))

  flown_alike : (l : ℕ) → l < legs_in t → fleet_by t (pair_at a l) < fleets_in t → flown_cost u (pair_at b l) ≡ flown_cost t (pair_at a l)
  flown_alike l below flown =
      let there : fleet_by u (pair_at b l) < fleets_in u = omega (arith, flown, same_fleet l below, same_fleets) in
      ap (λ (time : Shift). raised (cost_in u.costs l (fleet_by u (pair_at b l))) time.extra) (own_time l below there)
      ∙ ap (λ f. raised (cost_in u.costs l f) (pos 0)) (same_fleet l below)
      ∙ ap (λ (costs : List PairCost). raised (cost_in costs l (fleet_by t (pair_at a l))) (pos 0)) settled.tables.costs
      ∙ ap (λ o. raised o (pos 0)) (cost_raised t a t.costs l (fleet_by t (pair_at a l)))
      ∙ raised_once (cost_in t.costs l (fleet_by t (pair_at a l))) (time_of t (pair_at a l)).extra
      ∙ ap (λ (time : Shift). raised (cost_in t.costs l (fleet_by t (pair_at a l))) time.extra) (flown_time l flown)

  pub same_cost : (l : ℕ) → l < legs_in t → cost_of u (pair_at b l) ≡ cost_of t (pair_at a l)
  unfolding cost_of
  same_cost l below = elim (cases_lt (fleet_by t (pair_at a l)) (fleets_in t)) [
    | inl flown ↦
        let there : nat_lt (fleet_by u (pair_at b l)) (fleets_in u) ≡ true = lt-ltb (fleet_by u (pair_at b l)) (fleets_in u) (omega (arith, flown, same_fleet l below, same_fleets)) in
        rw (there, lt-ltb (fleet_by t (pair_at a l)) (fleets_in t) flown) (flown_alike l below flown)
    | inr past ↦
        let last : choice_at a l ≡ left_out t l = last_choice t l (choice_at a l) (assignment.known l below) past in
        let all : fleet_by t (pair_at a l) ≡ fleets_in t = omega (arith, past, few_fleets t (pair_at a l) (is_pair l below)) in
        let out : choice_at b l ≡ left_out u l = choice_is l below ∙ all ∙ sym (ap (λ n. fleets_in u * n) (one_time u plain l) ∙ one_times (fleets_in u) ∙ same_fleets) in
        let gone : nat_lt (fleet_by t (pair_at a l)) (fleets_in t) ≡ false = not_below (fleet_by t (pair_at a l)) (fleets_in t) past in
        let gone_too : nat_lt (fleet_by u (pair_at b l)) (fleets_in u) ≡ false = not_below (fleet_by u (pair_at b l)) (fleets_in u) (omega (arith, past, same_fleet l below, same_fleets)) in
        let here : (choice_at a l == left_out t l) ≡ true = equal_number (choice_at a l) (left_out t l) last in
        let here_too : (choice_at b l == left_out u l) ≡ true = equal_number (choice_at b l) (left_out u l) out in
        rw (gone, gone_too, here, here_too) (ap (λ (leg : Leg). leg.skip) (leg_is t u a b settled l below))
  ]
    where
      one_times : (n : ℕ) → n * 1 ≡ n
      one_times n = omega arith

      not_below : (m n : ℕ) → n ≤ m → nat_lt m n ≡ false
      not_below m n past = grind (arith, nat_tests)
