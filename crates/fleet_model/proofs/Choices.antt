-- What is added up over the choices of legs, and what over the departures of fleets.
use Rattle.std.proofs.Common.{◌≡◌, ℕ, ◌+◌, ◌*◌, ◌<◌, Bool, true, false, if◌then◌else◌, ◌==◌, ◌&&◌, nat_lt, List, slice_index_or, None, ℤ, pos, refl, sym, ◌∙◌, ap, inl, inr, arith}
use Rattle.std.proofs.lemmas.Bool.{cases_lt}
use Rattle.std.proofs.lemmas.Bool.Decides.{nat_tests}
use Rattle.sums.specs.Below.{count_below, sum_below, sum_below_ℤ}
use Rattle.sums.proofs.Sums.{sum_below-agree, sum_below-at, sum_below-one, sum_below-swap, sum_below-zero}
use Rattle.sums.proofs.Tests.{none_some}
use Rattle.sums.proofs.WholeSums.{sum_below_ℤ-same}
use Rattle.sums.proofs.WholeSwaps.{sum_below_ℤ-one, sum_below_ℤ-swap, sum_below_ℤ-zero, where_true}
use Rattle.fleet_model.specs.declared.parts.Departure.{Departure}
use Rattle.fleet_model.specs.declared.parts.Pair.{Pair}
use Rattle.fleet_model.specs.declared.tables.Tables.{Tables}
use Rattle.fleet_model.specs.Counts.{choice_at, pair_at, weights_of}
use Rattle.fleet_model.specs.Legal.{HasRoom, IsAssignment}
use Rattle.fleet_model.specs.Schedule.{IsFlown, choice_on, choices_in, departures_in, fleet_by, fleets_in, leg_at, leg_on, legs_in, no_departure, pair_on, parking_of, shifts_in, slot_by, stations_in}
use Rattle.fleet_model.proofs.Departures.{among, block_fleet, block_flown, in_block, on_fleet, on_fleet_ℤ, over_departures, over_departures_ℤ, place_of, slot_within}

-- ---- departures
pub of_departure : (t : Tables) (d : ℕ) → d < departures_in t → leg_at t d < legs_in t
unfolding leg_at
of_departure t d below = (among t d below).leg

-- a fleet flies a departure by a choice of its leg
pub on_departure : (t : Tables) (d f : ℕ) → d < departures_in t → f < fleets_in t → IsFlown t (pair_on t d f)
unfolding leg_at choice_on
on_departure t d f below known = block_flown t (slice_index_or t.departures d no_departure).leg f (slice_index_or t.departures d no_departure).slot (among t d below).leg known (among t d below).slot

pub by_fleet : (t : Tables) (d f : ℕ) → d < departures_in t → f < fleets_in t → fleet_by t (pair_on t d f) ≡ f
unfolding leg_at choice_on
by_fleet t d f below known = block_fleet t (slice_index_or t.departures d no_departure).leg f (slice_index_or t.departures d no_departure).slot (among t d below).slot

-- the departure of a pair that is flown
pub record IsOfDeparture (t : Tables) (p : Pair) (d : ℕ) : Type 0 where
  pub within : d < departures_in t
  pub pair : pair_on t d (fleet_by t p) ≡ p

pub of_flown : (t : Tables) (p : Pair) → IsFlown t p → (d : ℕ) × IsOfDeparture t p d
unfolding departures_in leg_at choice_on
of_flown t p flown =
    let place = place_of t p.leg (slot_by t p) flown.pair.leg (slot_within t p) in (
      place.0,
      record {
        within = place.1.within;
        pair = ap (λ (departure : Departure). leg_on departure.leg (fleet_by t p * shifts_in t departure.leg + departure.slot)) place.1.is ∙ ap (leg_on p.leg) (in_block t p);
      },
    )

-- ---- pick: the pairs by which a fleet flies, by legs and by departures
pub pick : (t : Tables) (g : Pair → ℕ) (f : ℕ) → f < fleets_in t
    → sum_below (λ l. sum_below (λ c. if f == fleet_by t (leg_on l c) then g (leg_on l c) else 0) (choices_in t l)) (legs_in t) ≡ sum_below (λ d. g (pair_on t d f)) (departures_in t)
pick t g f known =
    sum_below-agree (λ l. sum_below (λ c. if f == fleet_by t (leg_on l c) then g (leg_on l c) else 0) (choices_in t l)) (λ l. sum_below (λ i. g (leg_on l (f * shifts_in t l + i))) (shifts_in t l)) (legs_in t)
    (record { each = λ l below. on_fleet t l f known g })
    ∙ over_departures t f g

pub pick_ℤ : (t : Tables) (g : Pair → ℤ) (f : ℕ) → f < fleets_in t
    → sum_below_ℤ (λ l. sum_below_ℤ (λ c. where_true (f == fleet_by t (leg_on l c)) (g (leg_on l c))) (choices_in t l)) (legs_in t) ≡ sum_below_ℤ (λ d. g (pair_on t d f)) (departures_in t)
pick_ℤ t g f known =
    sum_below_ℤ-same (λ l. sum_below_ℤ (λ c. where_true (f == fleet_by t (leg_on l c)) (g (leg_on l c))) (choices_in t l)) (λ l. sum_below_ℤ (λ i. g (leg_on l (f * shifts_in t l + i))) (shifts_in t l)) (legs_in t)
    (λ l below. on_fleet_ℤ t l f known g)
    ∙ over_departures_ℤ t f g

-- ---- exchange: all pairs by which legs are flown, leg by leg and fleet by fleet
at_one : (x value n : ℕ) → sum_below (λ f. if f == x then value else 0) n ≡ (if nat_lt x n then value else 0)
at_one x value n = elim (cases_lt x n) [
  | inl below ↦ sum_below-agree (λ f. if f == x then value else 0) (λ f. if x == f then value else 0) n (record { each = λ f within. grind (arith, nat_tests) }) ∙ sum_below-one x value n below ∙ grind (arith, nat_tests)
  | inr past ↦ sum_below-agree (λ f. if f == x then value else 0) (λ f. 0) n (record { each = λ f within. grind (arith, nat_tests) }) ∙ sum_below-zero n ∙ grind (arith, nat_tests)
]

at_one_ℤ : (x : ℕ) (value : ℤ) (n : ℕ) → sum_below_ℤ (λ f. where_true (f == x) value) n ≡ where_true (nat_lt x n) value
at_one_ℤ x value n = elim (cases_lt x n) [
  | inl below ↦ sum_below_ℤ-same (λ f. where_true (f == x) value) (λ f. where_true (x == f) value) n (λ f within. grind (arith, nat_tests)) ∙ sum_below_ℤ-one x (λ f. value) n below ∙ grind (arith, nat_tests)
  | inr past ↦ sum_below_ℤ-same (λ f. where_true (f == x) value) (λ f. pos 0) n (λ f within. grind (arith, nat_tests)) ∙ sum_below_ℤ-zero n ∙ grind (arith, nat_tests)
]

pub exchange : (t : Tables) (g : Pair → ℕ)
    → sum_below (λ l. sum_below (λ c. if nat_lt (fleet_by t (leg_on l c)) (fleets_in t) then g (leg_on l c) else 0) (choices_in t l)) (legs_in t)
    ≡ sum_below (λ f. sum_below (λ d. g (pair_on t d f)) (departures_in t)) (fleets_in t)
exchange t g =
    let term = λ (f l c : ℕ). if f == fleet_by t (leg_on l c) then g (leg_on l c) else 0 in
    sum_below-agree (λ l. sum_below (λ c. if nat_lt (fleet_by t (leg_on l c)) (fleets_in t) then g (leg_on l c) else 0) (choices_in t l)) (λ l. sum_below (λ f. sum_below (term f l) (choices_in t l)) (fleets_in t)) (legs_in t)
    (record {
      each = λ l below.
          sum_below-agree (λ c. if nat_lt (fleet_by t (leg_on l c)) (fleets_in t) then g (leg_on l c) else 0) (λ c. sum_below (λ f. term f l c) (fleets_in t)) (choices_in t l)
          (record { each = λ c within. sym (at_one (fleet_by t (leg_on l c)) (g (leg_on l c)) (fleets_in t)) })
          ∙ sum_below-swap (λ c f. term f l c) (fleets_in t) (choices_in t l);
    })
    ∙ sum_below-swap (λ l f. sum_below (term f l) (choices_in t l)) (fleets_in t) (legs_in t)
    ∙ sum_below-agree (λ f. sum_below (λ l. sum_below (term f l) (choices_in t l)) (legs_in t)) (λ f. sum_below (λ d. g (pair_on t d f)) (departures_in t)) (fleets_in t)
    (record { each = λ f known. pick t g f known })

pub exchange_ℤ : (t : Tables) (g : Pair → ℤ)
    → sum_below_ℤ (λ l. sum_below_ℤ (λ c. where_true (nat_lt (fleet_by t (leg_on l c)) (fleets_in t)) (g (leg_on l c))) (choices_in t l)) (legs_in t)
    ≡ sum_below_ℤ (λ f. sum_below_ℤ (λ d. g (pair_on t d f)) (departures_in t)) (fleets_in t)
exchange_ℤ t g =
    let term = λ (f l c : ℕ). where_true (f == fleet_by t (leg_on l c)) (g (leg_on l c)) in
    sum_below_ℤ-same (λ l. sum_below_ℤ (λ c. where_true (nat_lt (fleet_by t (leg_on l c)) (fleets_in t)) (g (leg_on l c))) (choices_in t l)) (λ l. sum_below_ℤ (λ f. sum_below_ℤ (term f l) (choices_in t l)) (fleets_in t)) (legs_in t)
    (λ l below.
    sum_below_ℤ-same (λ c. where_true (nat_lt (fleet_by t (leg_on l c)) (fleets_in t)) (g (leg_on l c))) (λ c. sum_below_ℤ (λ f. term f l c) (fleets_in t)) (choices_in t l)
    (λ c within. sym (at_one_ℤ (fleet_by t (leg_on l c)) (g (leg_on l c)) (fleets_in t)))
    ∙ sum_below_ℤ-swap (λ c f. term f l c) (fleets_in t) (choices_in t l))
    ∙ sum_below_ℤ-swap (λ l f. sum_below_ℤ (term f l) (choices_in t l)) (fleets_in t) (legs_in t)
    ∙ sum_below_ℤ-same (λ f. sum_below_ℤ (λ l. sum_below_ℤ (term f l) (choices_in t l)) (legs_in t)) (λ f. sum_below_ℤ (λ d. g (pair_on t d f)) (departures_in t)) (fleets_in t)
    (λ f known. pick_ℤ t g f known)

-- ---- planned: by the weights of an assignment, what departures add up is added up by its own pairs
-- a leg's own choice alone weighs
own_choice : (a f : ℕ) (chosen : ℕ → ℕ) (value : ℕ → ℕ) (n : ℕ) → a < n
    → sum_below (λ c. if f == chosen c then (if a == c then 1 else 0) * value c else 0) n ≡ (if chosen a == f then value a else 0)
own_choice a f chosen value n known =
    sum_below-agree (λ c. if f == chosen c then (if a == c then 1 else 0) * value c else 0) (λ c. if a == c then (if f == chosen c then value c else 0) else 0) n
    (record { each = λ c within. turned (a == c) (f == chosen c) (value c) })
    ∙ sum_below-at a n (λ c. if f == chosen c then value c else 0) known
    ∙ grind (arith, nat_tests)
  where
    turned : (b d : Bool) (v : ℕ) → ◌≡◌ {A = ℕ} (if d then (if b then 1 else 0) * v else 0) (if b then (if d then v else 0) else 0)
    turned true true v = omega arith
    turned true false v = refl
    turned false true v = omega arith
    turned false false v = refl

pub planned : (t : Tables) (a : List ℕ) (f : ℕ) → IsAssignment t a → f < fleets_in t → (value : Pair → ℕ)
    → sum_below (λ d. weights_of a (pair_on t d f) * value (pair_on t d f)) (departures_in t) ≡ sum_below (λ l. if fleet_by t (pair_at a l) == f then value (pair_at a l) else 0) (legs_in t)
planned t a f assignment known value =
    sym (pick t (λ p. weights_of a p * value p) f known)
    ∙ sum_below-agree (λ l. sum_below (λ c. if f == fleet_by t (leg_on l c) then weights_of a (leg_on l c) * value (leg_on l c) else 0) (choices_in t l)) (λ l. if fleet_by t (pair_at a l) == f then value (pair_at a l) else 0) (legs_in t)
    (record { each = λ l below. own_choice (choice_at a l) f (λ c. fleet_by t (leg_on l c)) (λ c. value (leg_on l c)) (choices_in t l) (assignment.known l below) })

-- .. where a test passes
pub planned_where : (t : Tables) (a : List ℕ) (f : ℕ) → IsAssignment t a → f < fleets_in t → (test : Pair → Bool)
    → sum_below (λ d. if test (pair_on t d f) then weights_of a (pair_on t d f) else 0) (departures_in t) ≡ count_below (λ l. (fleet_by t (pair_at a l) == f) && test (pair_at a l)) (legs_in t)
planned_where t a f assignment known test =
    sum_below-agree (λ d. if test (pair_on t d f) then weights_of a (pair_on t d f) else 0) (λ d. weights_of a (pair_on t d f) * (if test (pair_on t d f) then 1 else 0)) (departures_in t)
    (record { each = λ d below. times_test (test (pair_on t d f)) (weights_of a (pair_on t d f)) })
    ∙ planned t a f assignment known (λ p. if test p then 1 else 0)
    ∙ sum_below-agree (λ l. if fleet_by t (pair_at a l) == f then (if test (pair_at a l) then 1 else 0) else 0) (λ l. if (fleet_by t (pair_at a l) == f) && test (pair_at a l) then 1 else 0) (legs_in t)
    (record { each = λ l below. both (fleet_by t (pair_at a l) == f) (test (pair_at a l)) })
  where
    times_test : (b : Bool) (w : ℕ) → (if b then w else 0) ≡ w * (if b then 1 else 0)
    times_test true w = omega arith
    times_test false w = omega arith

    both : (b c : Bool) → ◌≡◌ {A = ℕ} (if b then (if c then 1 else 0) else 0) (if b && c then 1 else 0)
    both true c = refl
    both false c = refl

-- ---- parking
-- where no station has a limit, there is room
pub nothing_parked : (t : Tables) (scale : ℕ) (w : Pair → ℕ) → ((s : ℕ) → s < stations_in t → parking_of t s ≡ None) → HasRoom t scale w
nothing_parked t scale w none = record { each = λ s d limit known some within is. absurd (none_some (sym (none s known) ∙ is)) }
