-- No through set is worth more than numbers sum to that reach all turns.
use Rattle.std.proofs.Common.{◌≡◌, ◌≢◌, ℕ, zero, suc, ◌+◌, ◌<◌, ◌≤◌, ◌==◌, Bool, true, false, if◌then◌else◌, List, length, ℤ, pos, ◌+ℤ◌, ◌*ℤ◌, ◌≤ℤ◌, Option, Some, None, unwrap_or, IsSome, refl, sym, ◌∙◌, ap, subst, inl, inr, arith}
use Rattle.std.proofs.lemmas.Bool.{cases_eq, cases_order, eq-eqb, eqb-true}
use Rattle.std.proofs.lemmas.Int.{ints}
use lib.IntN.{zero-*ℤ, *ℤ_comm}
use lib.Signed.{≤ℤ_refl}
use Rattle.sums.specs.Below.{count_below, sum_below_ℤ}
use Rattle.sums.proofs.Counts.{count_below-no_two, count_below-one}
use Rattle.sums.proofs.Integers.{one-*ℤ}
use Rattle.sums.proofs.Orders.{sum_below_ℤ-le}
use Rattle.sums.proofs.WholeSums.{sum_below_ℤ-same}
use Rattle.sums.proofs.WholeSwaps.{sum_below_ℤ-+ℤ, sum_below_ℤ-swap, sum_below_ℤ-one, where_true}
use Rattle.fleet_model.specs.declared.parts.Connection.{Connection}
use Rattle.fleet_model.specs.declared.tables.Tables.{Tables}
use Rattle.fleet_model.specs.Counts.{choice_at, weights_of}
use Rattle.fleet_model.specs.Schedule.{leg_on, legs_in}
use Rattle.lines_of_flying.specs.ground_turns.Maps.{AreClean, IsSuccessorMap, arrivals_of, departures_of, turn_at}
use Rattle.lines_of_flying.specs.ground_turns.Throughs.{IsThroughSet, through_value, through_worth_at, value_of_set}
use Rattle.lines_of_flying.proofs.ground_turns.Fits.{fits_where_clean}
use Rattle.lines_of_flying.proofs.ground_turns.FleetTurns.{pick, picked}
use Rattle.plan_rotations.proofs.through_flights.Followers.{weight_one}
use Rattle.plan_rotations.specs.through_flights.Choice.{NoSetIsWorthMore, ReachTurns, leg_number, sum_of}

-- one value as often as a test passes
as_often : (p : ℕ → Bool) (value : ℤ) (n : ℕ) → sum_below_ℤ (λ k. where_true (p k) value) n ≡ pos (count_below p n) *ℤ value
as_often p value zero = sym (zero-*ℤ value)
as_often p value (suc n) = ap (λ z. z +ℤ where_true (p n) value) (as_often p value n) ∙ one_more (p n) (count_below p n) value
  where
    one_more : (b : Bool) (count : ℕ) (value : ℤ) → (pos count *ℤ value) +ℤ where_true b value ≡ pos (count + (if b then 1 else 0)) *ℤ value
    one_more true count value = grind (arith, ints)
    one_more false count value = grind (arith, ints)

-- a sum over numbers by their places is one over the places, each as often as a number stands there
by_place : (f : ℕ → ℤ) (place : ℕ → ℕ) (places count : ℕ) → ((k : ℕ) → k < count → place k < places)
    → sum_below_ℤ (λ k. f (place k)) count ≡ sum_below_ℤ (λ s. pos (count_below (λ k. place k == s) count) *ℤ f s) places
by_place f place places count within =
    sum_below_ℤ-same (λ k. f (place k)) (λ k. sum_below_ℤ (λ s. where_true (place k == s) (f s)) places) count (λ k lt. sym (sum_below_ℤ-one (place k) f places (within k lt)))
    ∙ sum_below_ℤ-swap (λ k s. where_true (place k == s) (f s)) places count
    ∙ sum_below_ℤ-same (λ s. sum_below_ℤ (λ k. where_true (place k == s) (f s)) count) (λ s. pos (count_below (λ k. place k == s) count) *ℤ f s) places
    (λ s lt. as_often (λ k. place k == s) (f s) count)

-- numbers of the fleet's legs, each as often as the leg stands in the map, sum to all numbers
own_sum : (a : List ℕ) (f n : ℕ) (numbers : List ℤ) (times : ℕ → ℕ) → ((l : ℕ) → l < n → times l ≡ weights_of a (leg_on l f)) → ((l : ℕ) → l < n → choice_at a l ≢ f → leg_number numbers l ≡ pos 0)
    → sum_below_ℤ (λ l. pos (times l) *ℤ leg_number numbers l) n ≡ sum_of numbers n
own_sum a f n numbers times counts others = sum_below_ℤ-same (λ l. pos (times l) *ℤ leg_number numbers l) (leg_number numbers) n (λ l lt. elim (cases_eq (choice_at a l) f) [
  | inl own ↦ ap (λ m. pos m *ℤ leg_number numbers l) (counts l lt ∙ weight_one _ _ own) ∙ one-*ℤ (leg_number numbers l)
  | inr ne ↦ ap (λ z. pos (times l) *ℤ z) (others l lt ne) ∙ *ℤ_comm (pos (times l)) (pos 0) ∙ zero-*ℤ (pos (times l)) ∙ sym (others l lt ne)
])

-- a sum over some of the places, none taken twice, of numbers of at least 0
part_at_most : (g : ℕ → ℤ) (place : ℕ → ℕ) (places count : ℕ) → ((k : ℕ) → k < places → pos 0 ≤ℤ g k) → ((j : ℕ) → j < count → place j < places)
    → ((i j : ℕ) → i < count → j < count → place i ≡ place j → i ≡ j) → sum_below_ℤ (λ j. g (place j)) count ≤ℤ sum_below_ℤ g places
part_at_most g place places count some within distinct =
    subst (λ z. z ≤ℤ sum_below_ℤ g places) (sym (by_place g place places count within))
    (sum_below_ℤ-le (λ s. pos (count_below (λ k. place k == s) count) *ℤ g s) g places
    (λ s lt. at_most_once (count_below (λ k. place k == s) count) (g s) (some s lt)
    (count_below-no_two (λ k. place k == s) count (λ i j i_lt j_lt p q. distinct i j i_lt j_lt (eqb-true _ _ p ∙ sym (eqb-true _ _ q))))))
  where
    at_most_once : (count : ℕ) (z : ℤ) → pos 0 ≤ℤ z → count ≤ 1 → (pos count *ℤ z) ≤ℤ z
    at_most_once count z some few = elim (cases_eq count 0) [
      | inl none ↦ subst (λ m. (pos m *ℤ z) ≤ℤ z) (sym none) (subst (λ x. x ≤ℤ z) (sym (zero-*ℤ z)) some)
      | inr ne ↦ let one : count ≡ 1 = omega arith in subst (λ m. (pos m *ℤ z) ≤ℤ z) (sym one) (subst (λ x. x ≤ℤ z) (sym (one-*ℤ z)) (≤ℤ_refl z))
    ]

module _ (t : Tables) (a : List ℕ) (f : ℕ) (u v : List ℤ) (pairs : List Connection) (reach : ReachTurns t a f u v) (set : IsThroughSet t a f pairs) where
  turns : List Connection
  turns = set.held.turns

  map : IsSuccessorMap t a f turns
  unfolding turns
  map = set.held.fitting.map

  clean : AreClean t a f turns
  unfolding turns
  clean = (fits_where_clean t a f set.held.turns set.held.fitting.map).0 set.held.fitting

  -- what the numbers sum to at a turn of the map
  at_turn : ℕ → ℤ
  at_turn k = leg_number u (turn_at turns k).arriving +ℤ leg_number v (turn_at turns k).departing

  arrives_with : ℕ → ℕ → Bool
  arrives_with j k = (turn_at turns k).arriving == (turn_at pairs j).arriving

  -- where a pair stands in the map
  place : ℕ → ℕ
  place j = pick (arrives_with j) (length turns)

  placed : (j : ℕ) → j < length pairs → (place j < length turns) × (turn_at turns (place j) ≡ turn_at pairs j)
  unfolding place arrives_with turns
  placed j lt =
      let through = set.each j lt in
      let held = set.held.holds.each j lt in
      let here = eq-eqb _ _ (ap (λ x. x.arriving) held.there) in
      let found = picked (λ k. (turn_at turns k).arriving == (turn_at pairs j).arriving) (length turns) held.place held.within here in
      let once : arrivals_of turns (turn_at pairs j).arriving ≡ 1 = map.arrives (turn_at pairs j).arriving through.turn.arriving ∙ weight_one _ _ through.turn.comes_on in
      let same = count_below-one (λ k. (turn_at turns k).arriving == (turn_at pairs j).arriving) (length turns) (pick (λ k. (turn_at turns k).arriving == (turn_at pairs j).arriving) (length turns))
      held.place once found.0 held.within found.1 here in
      (found.0, ap (turn_at turns) same ∙ held.there)

  placed_once : (i j : ℕ) → i < length pairs → j < length pairs → place i ≡ place j → i ≡ j
  placed_once i j i_lt j_lt same = elim (cases_order i j) [
    | inl e ↦ e
    | inr other ↦ elim other [
      | inl before ↦ absurd (set.apart.arriving i j before j_lt (arriving i j i_lt j_lt same))
      | inr after ↦ absurd (set.apart.arriving j i after i_lt (arriving j i j_lt i_lt (sym same)))
    ]
  ]
    where
      arriving : (i j : ℕ) → i < length pairs → j < length pairs → place i ≡ place j → (turn_at pairs i).arriving ≡ (turn_at pairs j).arriving
      arriving i j i_lt j_lt same = ap (λ x. x.arriving) (sym (placed i i_lt).1 ∙ ap (turn_at turns) same ∙ (placed j j_lt).1)

  some_at_turn : (k : ℕ) → k < length turns → pos 0 ≤ℤ at_turn k
  unfolding at_turn
  some_at_turn k lt = reach.clean (turn_at turns k) (map.each k lt) (clean.each k lt)

  worth_at_turn : (j : ℕ) → j < length pairs → through_worth_at t pairs j ≤ℤ at_turn (place j)
  unfolding at_turn
  worth_at_turn j lt =
      let through = set.each j lt in
      subst (λ turn. through_worth_at t pairs j ≤ℤ (leg_number u turn.arriving +ℤ leg_number v turn.departing)) (sym (placed j lt).1)
      (reach.through (turn_at pairs j) (through_worth_at t pairs j) through (known (through_value t (turn_at pairs j)) through.listed))
    where
      known : (o : Option ℤ) → IsSome o → o ≡ Some (unwrap_or o (pos 0))
      known (Some z) some = refl
      known None some = cc

  all_turns : sum_below_ℤ at_turn (length turns) ≡ sum_of u (legs_in t) +ℤ sum_of v (legs_in t)
  unfolding at_turn
  all_turns =
      sum_below_ℤ-+ℤ (λ k. leg_number u (turn_at turns k).arriving) (λ k. leg_number v (turn_at turns k).departing) (length turns)
      ∙ ap (λ z. z +ℤ sum_below_ℤ (λ k. leg_number v (turn_at turns k).departing) (length turns))
      (by_place (leg_number u) (λ k. (turn_at turns k).arriving) (legs_in t) (length turns) (λ k lt. (map.each k lt).arriving)
      ∙ own_sum a f (legs_in t) u (arrivals_of turns) map.arrives (λ l lt ne. (reach.others l lt ne).0))
      ∙ ap (λ z. sum_of u (legs_in t) +ℤ z)
      (by_place (leg_number v) (λ k. (turn_at turns k).departing) (legs_in t) (length turns) (λ k lt. (map.each k lt).departing)
      ∙ own_sum a f (legs_in t) v (departures_of turns) map.departs (λ l lt ne. (reach.others l lt ne).1))

  pub at_most : value_of_set t pairs ≤ℤ (sum_of u (legs_in t) +ℤ sum_of v (legs_in t))
  unfolding value_of_set
  at_most =
      subst (λ z. sum_below_ℤ (through_worth_at t pairs) (length pairs) ≤ℤ z) all_turns
      (chain _ _ _ (sum_below_ℤ-le (through_worth_at t pairs) (λ j. at_turn (place j)) (length pairs) worth_at_turn)
      (part_at_most at_turn place (length turns) (length pairs) some_at_turn (λ j lt. (placed j lt).0) placed_once))
    where
      chain : (x y z : ℤ) → x ≤ℤ y → y ≤ℤ z → x ≤ℤ z
      chain x y z p q = omega (arith, ints)

pub none_more : NoSetIsWorthMore
none_more t a f u v pairs reach set = at_most t a f u v pairs reach set
