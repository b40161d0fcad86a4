-- The map of a fleet that goes first in, first out at each station; it fits.
use Rattle.std.proofs.Common.{◌≡◌, ℕ, ◌+◌, ◌-◌, ◌*◌, ◌%◌, ◌<◌, ◌≤◌, ◌⊎◌, inl, inr, Bool, true, false, if◌then◌else◌, ◌==◌, ◌&&◌, nat_le, List, [], refl, sym, ◌∙◌, ap, subst, arith}
use Rattle.std.proofs.lemmas.Nat.{mod_below}
use Rattle.std.proofs.lemmas.Bool.{and_from, and_parts, eqb-true, eq-eqb}
use Rattle.std.proofs.lemmas.Bool.Decides.{nat_tests}
use Rattle.sums.specs.Below.{count_below}
use Rattle.sums.proofs.Maxima.{max_below-agree, max_below-least}
use Rattle.sums.proofs.Sums.{sum_below-agree, sum_below-le, sum_below-zero}
use Rattle.sums.proofs.Naturals.{none_below_0, some_above}
use Rattle.fleet_model.specs.declared.parts.Connection.{Connection}
use Rattle.fleet_model.specs.declared.tables.Tables.{Tables}
use Rattle.fleet_model.specs.Counts.{arrived, departed, choice_at, weights_of}
use Rattle.fleet_model.specs.Schedule.{fleets_in, last_of, leg_of, leg_on, legs_in, no_leg, period_of, stations_in}
use Rattle.fleet_model.specs.Times.{departure, ready_minute}
use Rattle.fleet_model.specs.Use.{IsBalanced, excess, need_of}
use Rattle.fleet_model.specs.Plain.{IsPlain}
use Rattle.fleet_model.proofs.PeriodMinutes.{by_last, in_period}
use Rattle.fleet_model.proofs.PlainTables.{plain_arrived, plain_departed, plain_departs}
use Rattle.lines_of_flying.specs.ground_turns.FirstOut.{AreFirstOut, IsFirstOut, departure_place, free_departed, free_excess, free_landed, free_landings, free_need, is_free_departure, is_free_landing, landing_place}
use Rattle.lines_of_flying.specs.ground_turns.Laws.{SomeFits, surplus_at}
use Rattle.lines_of_flying.specs.ground_turns.Maps.{Holds, IsFitting, IsHeldByMap, IsNext, IsSuccessorMap, crossings_at, turn_to_next, turns_by}
use Rattle.lines_of_flying.specs.ground_turns.Turns.{IsTurn}
use Rattle.lines_of_flying.proofs.ground_turns.Fits.{periods_beyond_use}
use Rattle.sums.proofs.Rounds.{mod_cases}
use Rattle.lines_of_flying.proofs.ground_turns.FirstOuts.{no_more_cross}
use Rattle.lines_of_flying.proofs.ground_turns.FleetTurns.{each_turn, is_map, pick, picked}
use Rattle.lines_of_flying.proofs.ground_turns.FreeTurns.{crosses_by_given, crossings_are, given_at}
use Rattle.lines_of_flying.proofs.ground_turns.Places.{departure_is, departure_key, departures_differ, landing_is, landing_key, landings_differ}
use Rattle.lines_of_flying.proofs.ground_turns.Ranks.{one_place, place_taken, place_within}
use Rattle.lines_of_flying.proofs.ground_turns.Rounds.{bit, part_at_most}

-- numbers that go round to one are one
pub same_round : (x y f n : ℕ) → x < n → y < n → f ≤ n → (x + f) % n ≡ (y + f) % n → x ≡ y
same_round x y f n below within few e = by_cases (mod_cases (x + f) n (omega arith)) (mod_cases (y + f) n (omega arith))
  where
    by_cases : (((x + f) % n ≡ x + f) × (x + f < n)) ⊎ (((x + f) % n ≡ x + f - n) × (n ≤ x + f))
        → (((y + f) % n ≡ y + f) × (y + f < n)) ⊎ (((y + f) % n ≡ y + f - n) × (n ≤ y + f)) → x ≡ y
    by_cases (inl p) (inl q) = omega (arith, e, p.0, q.0)
    by_cases (inl p) (inr q) = omega (arith, e, p.0, q.0, p.1, q.1)
    by_cases (inr p) (inl q) = omega (arith, e, p.0, q.0, p.1, q.1)
    by_cases (inr p) (inr q) = omega (arith, e, p.0, q.0, p.1, q.1)

-- with no given pair each of the fleet's legs at the station is free
free_part : (w b r : Bool) → bit (((w && b) && true) && r) ≡ (if b && r then bit w else 0)
free_part w b r = grind (arith, nat_tests)

all_part : (w b r : Bool) → r ≡ true → bit ((w && b) && true) ≡ (if b && r then bit w else 0)
all_part w b r e = grind (arith, nat_tests)

none_part : (w : ℕ) (b c : Bool) → w * bit ((b && false) && c) ≡ 0
none_part w true c = omega arith
none_part w false c = omega arith

module _ (t : Tables) (a : List ℕ) (f : ℕ) (s : ℕ) (plain : IsPlain t) where
  landed_all : (m : ℕ) → free_landed t a f [] s m ≡ arrived t (weights_of a) f s m
  unfolding free_landed
  landed_all m =
      sum_below-agree _ _ (legs_in t) (record { each = λ l below. free_part (choice_at a l == f) ((leg_of t l).to == s) (nat_le (ready_minute t (leg_on l f)) m) })
      ∙ sym (plain_arrived t (weights_of a) f s m plain)

  departed_all : (m : ℕ) → free_departed t a f [] s m ≡ departed t (weights_of a) f s m
  unfolding free_departed
  departed_all m =
      sum_below-agree _ _ (legs_in t) (record { each = λ l below. free_part (choice_at a l == f) ((leg_of t l).from == s) (nat_le (departure t (leg_on l f)) m) })
      ∙ sym (plain_departed t (weights_of a) f s m plain)

  need_all : free_need t a f [] s ≡ need_of t (weights_of a) f s
  unfolding free_need need_of excess
  need_all = max_below-agree _ _ (period_of t) (record { each = λ m moment. omega (arith, landed_all m, departed_all m) })

  landings_all : free_landings t a f [] s ≡ arrived t (weights_of a) f s (last_of t)
  unfolding free_landings
  landings_all =
      sum_below-agree _ _ (legs_in t) (record {
        each = λ l below.
            all_part (choice_at a l == f) ((leg_of t l).to == s) (nat_le (ready_minute t (leg_on l f)) (last_of t))
            (by_last t (ready_minute t (leg_on l f)) (in_period t _));
      })
      ∙ sym (plain_arrived t (weights_of a) f s (last_of t) plain)

  departures_all : count_below (is_free_departure t a f [] s) (legs_in t) ≡ departed t (weights_of a) f s (last_of t)
  departures_all =
      sum_below-agree _ _ (legs_in t) (record {
        each = λ l below.
            all_part (choice_at a l == f) ((leg_of t l).from == s) (nat_le (departure t (leg_on l f)) (last_of t))
            (by_last t (departure t (leg_on l f)) (plain_departs t l f plain below));
      })
      ∙ sym (plain_departed t (weights_of a) f s (last_of t) plain)

  departed_few : (m : ℕ) → free_departed t a f [] s m ≤ count_below (is_free_departure t a f [] s) (legs_in t)
  unfolding free_departed
  departed_few m = sum_below-le _ (λ l. bit (is_free_departure t a f [] s l)) (legs_in t) (record { each = λ l below. part_at_most (is_free_departure t a f [] s l) (nat_le (departure t (leg_on l f)) m) })

  few_needed : arrived t (weights_of a) f s (last_of t) ≡ departed t (weights_of a) f s (last_of t) → free_need t a f [] s ≤ free_landings t a f [] s
  unfolding free_need
  few_needed balanced =
      max_below-least (free_excess t a f [] s) (free_landings t a f [] s) (period_of t)
      (record { each = λ m moment. omega (arith, departed_few m, departures_all, landings_all, balanced) })

module _ (t : Tables) (a : List ℕ) (f : ℕ) (plain : IsPlain t) (balanced : IsBalanced t (weights_of a)) (known : f < fleets_in t) where
  abbrev in_fleet : ℕ → Bool
  in_fleet l = choice_at a l == f

  -- the place of the departure that follows a leg
  next_place : ℕ → ℕ → ℕ
  next_place s l = (landing_place t a f [] s l + free_need t a f [] s) % free_landings t a f [] s

  follows : ℕ → ℕ → ℕ → Bool
  follows s l q = is_free_departure t a f [] s q && (departure_place t a f [] s q == next_place s l)

  next : ℕ → ℕ
  next l = pick (follows (leg_of t l).to l) (legs_in t)

  even : (s : ℕ) → s < stations_in t → arrived t (weights_of a) f s (last_of t) ≡ departed t (weights_of a) f s (last_of t)
  even s below = balanced.each f s known below

  lands : (l : ℕ) → in_fleet l ≡ true → is_free_landing t a f [] (leg_of t l).to l ≡ true
  lands l flies = and_from _ _ (and_from _ _ flies (eq-eqb _ _ refl)) refl

  station_known : (l : ℕ) → l < legs_in t → (leg_of t l).to < stations_in t
  station_known l below = (t.in_range.legs_fit.each l no_leg below).to

  place_low : (l : ℕ) → l < legs_in t → in_fleet l ≡ true → landing_place t a f [] (leg_of t l).to l < free_landings t a f [] (leg_of t l).to
  unfolding free_landings
  place_low l below flies =
      let s = (leg_of t l).to in
      subst (λ n. n < count_below (is_free_landing t a f [] s) (legs_in t)) (sym (landing_is t a f [] s l below))
      (place_within (is_free_landing t a f [] s) (landing_key t a f [] s) (legs_in t) (landings_differ t a f [] s) l below (lands l flies))

  next_is : (l : ℕ) → l < legs_in t → in_fleet l ≡ true → (next l < legs_in t) × (follows (leg_of t l).to l (next l) ≡ true)
  unfolding next next_place follows
  next_is l below flies =
      let s = (leg_of t l).to in
      let low : next_place s l < free_landings t a f [] s = mod_below _ (free_landings t a f [] s) (some_above (place_low l below flies)) in
      let fits : next_place s l < count_below (is_free_departure t a f [] s) (legs_in t) = omega (arith, low, departures_all t a f s plain, landings_all t a f s plain, even s (station_known l below)) in
      let found = place_taken (is_free_departure t a f [] s) (departure_key t a f [] s) (legs_in t) (departures_differ t a f [] s) (next_place s l) fits in
      picked (follows s l) (legs_in t) found.0 found.1 (and_from _ _ found.2 (eq-eqb _ _ (departure_is t a f [] s found.0 found.1 ∙ found.3)))

  next_free : (l : ℕ) → l < legs_in t → in_fleet l ≡ true → is_free_departure t a f [] (leg_of t l).to (next l) ≡ true
  unfolding follows
  next_free l below flies = (and_parts _ _ (next_is l below flies).1).0

  next_at : (l : ℕ) → l < legs_in t → in_fleet l ≡ true → departure_place t a f [] (leg_of t l).to (next l) ≡ next_place (leg_of t l).to l
  unfolding follows
  next_at l below flies = eqb-true _ _ (and_parts _ _ (next_is l below flies).1).1

  next_flies : (l : ℕ) → l < legs_in t → in_fleet l ≡ true → in_fleet (next l) ≡ true
  next_flies l below flies = (and_parts _ _ (and_parts _ _ (next_free l below flies)).0).0

  next_leaves : (l : ℕ) → l < legs_in t → in_fleet l ≡ true → (leg_of t (next l)).from ≡ (leg_of t l).to
  next_leaves l below flies = eqb-true _ _ (and_parts _ _ (and_parts _ _ (next_free l below flies)).0).1

  -- two legs with one that follows are one
  next_once : (l k : ℕ) → l < legs_in t → k < legs_in t → in_fleet l ≡ true → in_fleet k ≡ true → next l ≡ next k → l ≡ k
  unfolding next_place
  next_once l k below within flies flies' e =
      let s = (leg_of t l).to in
      let same : (leg_of t k).to ≡ s = sym (next_leaves k within flies') ∙ ap (λ q. (leg_of t q).from) (sym e) ∙ next_leaves l below flies in
      let there : departure_place t a f [] s (next k) ≡ next_place s k = subst (λ at. departure_place t a f [] at (next k) ≡ next_place at k) same (next_at k within flies') in
      let round : next_place s l ≡ next_place s k = sym (next_at l below flies) ∙ ap (departure_place t a f [] s) e ∙ there in
      let low : landing_place t a f [] s k < free_landings t a f [] s = subst (λ at. landing_place t a f [] at k < free_landings t a f [] at) same (place_low k within flies') in
      let places = same_round (landing_place t a f [] s l) (landing_place t a f [] s k) (free_need t a f [] s) (free_landings t a f [] s)
      (place_low l below flies) low (few_needed t a f s plain (even s (station_known l below))) round in
      one_place (is_free_landing t a f [] s) (landing_key t a f [] s) (legs_in t) (landings_differ t a f [] s) l k below within
      (lands l flies) (subst (λ at. is_free_landing t a f [] at k ≡ true) same (lands k flies'))
      (sym (landing_is t a f [] s l below) ∙ places ∙ landing_is t a f [] s k within)

  a_turn : (l : ℕ) → l < legs_in t → in_fleet l ≡ true → IsTurn t a f (turn_to_next next l)
  a_turn l below flies = record {
    arriving = below;
    departing = (next_is l below flies).0;
    comes_on = eqb-true _ _ flies;
    leaves_on = eqb-true _ _ (next_flies l below flies);
    meets = sym (next_leaves l below flies);
  }

  leads : IsNext t a f next
  leads = record {
    turn = λ l below flies. a_turn l below (eq-eqb _ _ flies);
    once = λ l k below within flies flies' e. next_once l k below within (eq-eqb _ _ flies) (eq-eqb _ _ flies') e;
  }

  turns : List Connection
  turns = turns_by a f next (legs_in t)

  map : IsSuccessorMap t a f turns
  unfolding turns
  map = is_map t a f next plain leads

  first_out : AreFirstOut t a f [] turns
  unfolding turns next_place
  first_out = record { each = λ k lt none. each_turn a f next (IsFirstOut t a f []) (legs_in t) (λ l below flies. record { place = next_at l below (eq-eqb _ _ flies) }) k lt }

  holds : Holds turns []
  holds = record { each = λ k lt. absurd (none_below_0 _ lt) }

  -- no more cross than are needed
  crosses_needed : (s : ℕ) → crossings_at t f turns s ≤ need_of t (weights_of a) f s
  crosses_needed s =
      let parts = crossings_are t a f [] turns map holds s in
      let few = no_more_cross t a f [] turns map holds first_out s in
      let zeros = sum_below-agree (λ l. weights_of a (leg_on l f) * bit (given_at t f [] s l)) (λ l. 0) (legs_in t)
      (record { each = λ l below. none_part (weights_of a (leg_on l f)) ((leg_of t l).to == s) (crosses_by_given t f [] l) }) in
      omega (arith, parts, few, zeros, sum_below-zero (legs_in t), need_all t a f s plain)

  fitting : IsFitting t a f turns
  fitting =
      let zeros = sum_below-agree (surplus_at t a f turns) (λ s. 0) (stations_in t) (record { each = λ s below. let less = crosses_needed s in omega arith }) in
      record { map = map; fits = omega (arith, periods_beyond_use t a f turns map, zeros, sum_below-zero (stations_in t)) }

  pub is_held : IsHeldByMap t a f []
  is_held = record { turns = turns; fitting = fitting; holds = holds }

pub some_fits : SomeFits
some_fits t a f plain balanced known = is_held t a f plain balanced known
