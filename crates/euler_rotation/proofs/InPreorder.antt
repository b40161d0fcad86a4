-- A kept tour that begins with the order's first leg is a prefix.
use Rattle.std.proofs.Common.{◌≡◌, ℕ, zero, suc, ◌-◌, ◌%◌, ◌<◌, true, ◌==◌, if◌then◌else◌, All, List, [], ◌∷◌, length, slice_index, refl, sym, ◌∙◌, ap, subst, arith, add-one}
use Rattle.std.proofs.Math.Nat.{mod-eq_of_lt}
use Rattle.std.proofs.lemmas.Bool.{eq-eqb, eqb-true, or_left, or_right}
use Rattle.std.proofs.lemmas.List.{take_all}
use Rattle.sums.proofs.Counts.{count_below-one}
use Rattle.sums.proofs.Tests.{first_true, parts_true}
use Rattle.fleet_model.specs.declared.parts.Connection.{Connection}
use Rattle.fleet_model.specs.declared.tables.Tables.{Tables}
use Rattle.lines_of_flying.specs.ground_turns.Maps.{turn_after, turn_at}
use Rattle.lines_of_flying.specs.ground_turns.Nights.{nights_of_tour}
use Rattle.lines_of_flying.proofs.ground_turns.SomeMap.{same_round}
use Rattle.lines_of_flying.proofs.ground_turns.Totals.{some_counted}
use Rattle.euler_rotation.specs.Often.{nights_since, stays_below}
use Rattle.euler_rotation.specs.Prefixes.{has_leg, is_clean, meets, nights_along, preorder, turn_to}
use Rattle.euler_rotation.specs.PrefixLaws.{AgreesWith, IsPrefix, IsTurnBeside}
use Rattle.euler_rotation.specs.Tours.{IsKeptTour, IsOrder, times_in}
use Rattle.euler_rotation.proofs.Along.{first_nights}
use Rattle.euler_rotation.proofs.Gaps.{below_often, kept_below}
use Rattle.euler_rotation.proofs.NightsSince.{below_append}
use Rattle.euler_rotation.proofs.PrefixesThere.{holds_there}
use Rattle.euler_rotation.proofs.TourTurns.{clean_to, length_round, own_leg, tour_met, tour_order, turn_round}

-- a leg that stands in a list is one of it
has_placed : (xs : List ℕ) (l j : ℕ) → j < length xs → slice_index xs j ≡ l → has_leg xs l ≡ true
has_placed [] l j lt same = absurd (omega arith)
has_placed (x ∷ xs) l zero lt same = or_left (x == l) (has_leg xs l) (eq-eqb x l same)
has_placed (x ∷ xs) l (suc j) lt same = or_right (x == l) (has_leg xs l) (has_placed xs l j (omega arith) same)

module _ (t : Tables) (a : List ℕ) (f : ℕ) (pairs : List Connection) (days : ℕ) (some_days : 0 < days) (tour : List ℕ) (kept : IsKeptTour t a f pairs days tour) where
  order_is : IsOrder t a f tour
  order_is = tour_order t a f tour kept.tour

  -- no leg stands twice
  once : (j k : ℕ) → j < length tour → k < length tour → slice_index tour j ≡ slice_index tour k → j ≡ k
  once j k first second same =
      let l = slice_index tour k in
      let one : times_in tour l ≡ 1 = order_is.once l (order_is.known k second) ∙ ap (λ b. if b then 1 else 0) (eq-eqb _ _ (own_leg t a f tour order_is k second)) in
      count_below-one (λ i. slice_index tour i == l) (length tour) j k one first second (eq-eqb _ _ same) (eq-eqb _ _ refl)

  module _ (k : ℕ) (lt : suc k < length tour) where
    turn_is : turn_after tour k ≡ turn_to (slice_index tour k) (slice_index tour (suc k))
    turn_is = ap (λ j. turn_to (slice_index tour k) (slice_index tour j)) (mod-eq_of_lt lt)

    agrees : (p : ℕ) → p < length pairs → AgreesWith (turn_after tour k) (turn_at pairs p)
    agrees p within =
        let has = kept.holds.each p within in
        let low : has.place < length tour = omega (arith, has.within, length_round tour) in
        let is : turn_after tour has.place ≡ turn_at pairs p = sym (turn_round tour has.place low) ∙ has.there in
        subst (λ (pair : Connection). AgreesWith (turn_after tour k) pair) is (
          λ same. ap (λ j. slice_index tour (suc j % length tour)) (once has.place k low (omega arith) same),
          λ same. ap (slice_index tour) (back has.place k low (omega arith) (once (suc has.place % length tour) (suc k % length tour) (omega arith) (omega arith) same)),
        )
      where
        back : (i j : ℕ) → i < length tour → j < length tour → suc i % length tour ≡ suc j % length tour → i ≡ j
        back i j first second same = same_round i j 1 (length tour) first second (omega arith) (ap (λ n. n % length tour) (add-one i) ∙ same ∙ ap (λ n. n % length tour) (sym (add-one j)))

    turns_beside : IsTurnBeside t a f pairs (turn_to (slice_index tour k) (slice_index tour (suc k)))
    turns_beside =
        let met = parts_true (meets t (turn_after tour k)) (is_clean t a f (turn_after tour k)) ((tour_met t a f tour kept.tour).each k (omega arith)) in
        subst (λ (turn : Connection). IsTurnBeside t a f pairs turn) turn_is
        (record { meets = eqb-true _ _ met.0; clean = clean_to t a f (turn_after tour k) met.1; agrees = agrees })

  -- so are the nights between its legs
  often : stays_below t days 0 (nights_along t f tour) ≡ true
  often = subst (λ (legs : List ℕ). stays_below t days 0 (nights_along t f legs) ≡ true) (take_all (suc (length tour - 1)) tour (omega (arith, kept.tour.some)))
      (first_nights t f tour (length tour - 1) (omega (arith, kept.tour.some)) (length tour) (omega arith) days
      (first_true (stays_below t days 0 (nights_of_tour t f tour)) (stays_below t days (nights_since t 0 (nights_of_tour t f tour)) (nights_of_tour t f tour))
      (sym (below_append t days 0 (nights_of_tour t f tour) (nights_of_tour t f tour)) ∙ kept_below t days (nights_of_tour t f tour) some_days kept.kept)))

  module _ (order : List ℕ) (order_of : IsOrder t a f order) where
    -- a leg of the tour is one of the order
    own : (k : ℕ) → k < length tour → has_leg order (slice_index tour k) ≡ true
    own k lt =
        let l = slice_index tour k in
        let known = order_is.known k lt in
        let one : times_in order l ≡ 1 = order_of.once l known ∙ ap (λ b. if b then 1 else 0) (eq-eqb _ _ (own_leg t a f tour order_is k lt)) in
        let place = some_counted (λ j. slice_index order j == l) (length order) (omega (arith, one)) in
        has_placed order l place.0 place.1 (eqb-true _ _ place.2)

    is_prefix : slice_index tour 0 ≡ slice_index order 0 → IsPrefix t a f pairs days order tour
    is_prefix begins = record {
      some = kept.tour.some;
      begins = begins;
      own = own;
      once = λ j k less lt same. absurd (omega (arith, less, once j k (omega arith) lt same));
      turn = turns_beside;
      maintained = below_often t days (nights_along t f tour) some_days often;
    }

    -- what holds of all entries holds of it
    pub reached : (P : List ℕ → Type 0) → slice_index tour 0 ≡ slice_index order 0 → All P (preorder t a f pairs days order) → P tour
    reached P begins all = holds_there t a f pairs days some_days order tour (is_prefix begins) P all
