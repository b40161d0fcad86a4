-- A kept tour has a leg with a period's start before it, and begins as it is to from the least of these.
use Rattle.std.proofs.Common.{◌≡◌, ◌+◌, ◌-◌, ◌%◌, ◌<◌, ◌≤◌, ◌∙◌, ◌*◌, List, None, ℕ, add_comm, ap, arith, inl, inr, length, refl, slice_index, subst, suc, sym}
use Rattle.std.proofs.Math.Nat.{add-mod_right, add_right_comm, mod-add-mod, mod-eq_of_lt}
use Rattle.std.proofs.lemmas.Bool.{cases_lt}
use Rattle.std.proofs.lemmas.Nat.{mod_below}
use Rattle.sums.proofs.Sums.{sum_below-agree, sum_below-zero}
use Rattle.sums.specs.Below.{sum_below}
use Rattle.fleet_model.specs.declared.tables.Tables.{Tables}
use Rattle.fleet_model.specs.Counts.{weights_of}
use Rattle.fleet_model.specs.Schedule.{days_in}
use Rattle.fleet_model.specs.Use.{used_of}
use Rattle.lines_of_flying.specs.ground_turns.Maps.{IsTour, periods_in_turn, turn_after, turn_at, turns_round}
use Rattle.lines_of_flying.specs.ground_turns.Nights.{nights_of_tour}
use Rattle.lines_of_flying.proofs.ground_turns.TourNights.{all_periods, nights_are_use}
use Rattle.lines_of_flying.specs.Lines.{periods_after}
use Rattle.euler_rotation.specs.Starts.{IsLeastPlace, LeastOrNone}
use Rattle.euler_rotation.specs.Tours.{BeginsLeast, periods_before, turned_tour}
use Rattle.euler_rotation.proofs.Turning.{entry_turned, length_turned, turn_turned}
use Rattle.euler_rotation.proofs.TourTurns.{length_round, turn_round}
use Rattle.sums.proofs.Rounds.{from_start}

module _ (t : Tables) (f : ℕ) (tour : List ℕ) where
  after_is : (legs : List ℕ) (k : ℕ) → periods_after t f legs k ≡ periods_in_turn t f (turn_after legs k)
  unfolding periods_after
  after_is legs k = refl

  -- ---- some place has a period's start before it
  module _ (none : LeastOrNone t f tour (length tour) None) where
    none_after : (j : ℕ) → j < length tour → periods_in_turn t f (turn_after tour j) ≡ 0
    none_after j lt =
        elim (cases_lt 0 (periods_in_turn t f (turn_after tour j))) [
          | inl some ↦ absurd (none (suc j % length tour) (mod_below (suc j) (length tour) (omega arith)) (subst (λ (n : ℕ). 0 < n) (sym same) some))
          | inr le ↦ omega arith
        ]
      where
        back : (j n : ℕ) → j < n → (suc j % n + (n - 1)) % n ≡ j
        back j n lt = mod-add-mod (suc j) n (n - 1) ∙ ap (λ k. k % n) (all j n lt) ∙ add-mod_right j n ∙ mod-eq_of_lt lt
          where
            all : (j n : ℕ) → j < n → suc j + (n - 1) ≡ j + n
            all j n lt = omega arith

        same : periods_before t f tour (suc j % length tour) ≡ periods_in_turn t f (turn_after tour j)
        same = ap (periods_after t f tour) (back j (length tour) lt) ∙ after_is tour j

    no_periods : sum_below (λ k. periods_in_turn t f (turn_at (turns_round tour) k)) (length (turns_round tour)) ≡ 0
    no_periods =
        sum_below-agree (λ k. periods_in_turn t f (turn_at (turns_round tour) k)) (λ k. 0) (length (turns_round tour))
        (record { each = λ k lt. let low : k < length tour = omega (arith, length_round tour) in ap (periods_in_turn t f) (turn_round tour k low) ∙ none_after k low })
        ∙ sum_below-zero (length (turns_round tour))

    pub no_place : (a : List ℕ) → IsTour t a f tour → 0 < length (nights_of_tour t f tour) → ⊥
    no_place a is some =
        let unused : used_of t (weights_of a) f ≡ 0 = sym is.fitting.fits ∙ sym (all_periods t a f (turns_round tour) is.fitting.map) ∙ no_periods in
        let none : length (nights_of_tour t f tour) ≡ 0 * days_in t = nights_are_use t a f (turns_round tour) is.fitting ∙ ap (λ n. n * days_in t) unused in
        omega (arith, none, some)

  -- ---- the tour from there
  module _ (r : ℕ) (is : IsLeastPlace t f tour (length tour) r) where
    periods_there : (k : ℕ) → k < length tour → periods_after t f (turned_tour r tour) k ≡ periods_after t f tour ((k + r) % length tour)
    periods_there k lt = after_is (turned_tour r tour) k ∙ ap (periods_in_turn t f) (turn_turned tour r is.within k lt) ∙ sym (after_is tour ((k + r) % length tour))

    pub begins_least : BeginsLeast t f (turned_tour r tour)
    begins_least = record { begins = record { before = begins }; least = least }
      where
        long : length (turned_tour r tour) ≡ length tour
        long = length_turned tour r is.within

        begins : 0 < periods_after t f (turned_tour r tour) (length (turned_tour r tour) - 1)
        begins = subst (λ (n : ℕ). 0 < n) (sym (ap (λ n. periods_after t f (turned_tour r tour) (n - 1)) long ∙ periods_there (length tour - 1) (omega (arith, is.within)) ∙ ap (λ j. periods_after t f tour (j % length tour)) (add_comm (length tour - 1) r))) is.start

        least : (k : ℕ) → k < length (turned_tour r tour) → 0 < periods_before t f (turned_tour r tour) k → slice_index (turned_tour r tour) 0 ≤ slice_index (turned_tour r tour) k
        least k lt some =
            let low : k < length tour = omega (arith, long) in
            let first : slice_index (turned_tour r tour) 0 ≡ slice_index tour r = entry_turned tour r is.within 0 (omega (arith, is.within)) ∙ ap (slice_index tour) (from_start r (length tour) is.within) in
            let here : slice_index (turned_tour r tour) k ≡ slice_index tour ((k + r) % length tour) = entry_turned tour r is.within k low in
            let before : periods_before t f (turned_tour r tour) k ≡ periods_before t f tour ((k + r) % length tour) = same k low in
            omega (arith, first, here, is.least ((k + r) % length tour) (mod_below (k + r) (length tour) (omega (arith, is.within))) (subst (λ (n : ℕ). 0 < n) before some))
          where
            same : (k : ℕ) → k < length tour → periods_before t f (turned_tour r tour) k ≡ periods_before t f tour ((k + r) % length tour)
            same k low =
                ap (λ n. periods_after t f (turned_tour r tour) ((k + (n - 1)) % n)) long
                ∙ periods_there ((k + (length tour - 1)) % length tour) (mod_below (k + (length tour - 1)) (length tour) (omega arith))
                ∙ ap (periods_after t f tour) (mod-add-mod (k + (length tour - 1)) (length tour) r ∙ ap (λ j. j % length tour) (add_right_comm k (length tour - 1) r) ∙ sym (mod-add-mod (k + r) (length tour) (length tour - 1)))
