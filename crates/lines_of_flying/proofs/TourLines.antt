-- The lines of a tour, leg by leg, and how many there are.
use Rattle.std.proofs.Common.{◌≡◌, ◌+◌, ◌*◌, ◌<◌, ◌==◌, [], ◌∷◌, ◌++◌, ◌∙◌, ◌-◌, ◌-◌, ◌≤◌, List, ℕ, add-one, ap, append_assoc, arith, false, if◌then◌else◌, length, refl, slice_index, subst, suc, sym, take, take_all, zero}
use Rattle.std.proofs.lemmas.List.{append-nil, take-append-le}
use Rattle.sums.specs.Below.{sum_below}
use Rattle.sums.specs.Places.{list_below}
use Rattle.sums.proofs.Naturals.{same_number}
use Rattle.sums.proofs.Places.{get_or-list_below, length-list_below, list_below-agree, list_below-more}
use Rattle.sums.proofs.SumBounds.{sum_below-le}
use Rattle.sums.proofs.Sums.{sum_below-agree}
use Rattle.sums.proofs.NumberTests.{greater_differs, less_differs}
use Rattle.fleet_model.specs.declared.tables.Tables.{Tables}
use Rattle.fleet_model.specs.Counts.{weights_of}
use Rattle.fleet_model.specs.Schedule.{days_in, legs_in}
use Rattle.fleet_model.specs.Use.{used_of}
use Rattle.lines_of_flying.specs.ground_turns.Maps.{IsTour, no_turn, turn_after, turn_at, turns_round}
use Rattle.lines_of_flying.specs.ground_turns.Turns.{IsTurn}
use Rattle.lines_of_flying.proofs.ground_turns.TourNights.{nights_are_use, nights_long}
use Rattle.lines_of_flying.specs.ground_turns.Nights.{nights_in}
use Rattle.lines_of_flying.specs.Lines.{AreLegsOfTables, day_of, days_of_tour, first_day, legs_on_day, line_after, lines_ended, lines_of, nights_after}

-- the legs of a tour are legs of the tables
pub known_legs : (t : Tables) (a : List ℕ) (f : ℕ) (tour : List ℕ) → IsTour t a f tour → AreLegsOfTables t tour
known_legs t a f tour is = record { each = λ k below. known k below }
  where
    known : (k : ℕ) → k < length tour → slice_index tour k < legs_in t
    known k below =
        let within : k < length (turns_round tour) = rw (length-list_below (turn_after tour) (length tour)) below in
        let turn : IsTurn t a f (turn_at (turns_round tour) k) = is.fitting.map.each k within in
        (subst (IsTurn t a f) (get_or-list_below (turn_after tour) (length tour) k no_turn below) turn).arriving

-- the days of a tour are as many as the fleet uses aircraft, for each day of the period
pub days_are_use : (t : Tables) (a : List ℕ) (f : ℕ) (tour : List ℕ) → IsTour t a f tour → length (lines_of t f tour) ≡ used_of t (weights_of a) f * days_in t
unfolding nights_after
days_are_use t a f tour is =
    length-list_below (λ d. legs_on_day t f tour d (length tour)) (days_of_tour t f tour)
    ∙ sum_below-agree (nights_after t f tour) (λ k. nights_in t f (turn_at (turns_round tour) k)) (length tour)
    (record { each = λ k below. ap (nights_in t f) (sym (get_or-list_below (turn_after tour) (length tour) k no_turn below)) })
    ∙ ap (sum_below (λ k. nights_in t f (turn_at (turns_round tour) k))) (sym (length-list_below (turn_after tour) (length tour)))
    ∙ sym (nights_long t f (turns_round tour))
    ∙ nights_are_use t a f (turns_round tour) is.fitting

module _ (t : Tables) (f : ℕ) (tour : List ℕ) where
  -- the first legs of a day
  unfoldable pub first_on : ℕ → ℕ → List ℕ
  first_on n d = legs_on_day t f tour d n

  other_day : (d n : ℕ) → (day_of t f tour n == d) ≡ false → first_on (suc n) d ≡ first_on n d
  unfolding first_on
  other_day d n other = ap (λ b. legs_on_day t f tour d n ++ (if b then slice_index tour n ∷ [] else [])) other ∙ append-nil (legs_on_day t f tour d n)

  pub other_early_day : (n d : ℕ) → d < day_of t f tour n → first_on (suc n) d ≡ first_on n d
  other_early_day n d less = other_day d n (greater_differs (day_of t f tour n) d less)

  pub its_day : (n : ℕ) → first_on (suc n) (day_of t f tour n) ≡ first_on n (day_of t f tour n) ++ slice_index tour n ∷ []
  unfolding first_on
  its_day n = ap (λ b. legs_on_day t f tour (day_of t f tour n) n ++ (if b then slice_index tour n ∷ [] else [])) (same_number (day_of t f tour n))

  -- no leg is of a later day than the last one's
  none_later : (n d : ℕ) → ((k : ℕ) → k < n → day_of t f tour k < d) → first_on n d ≡ []
  unfolding first_on
  none_later zero d early = refl
  none_later (suc n) d early =
      let other : (day_of t f tour n == d) ≡ false = less_differs (day_of t f tour n) d (early n (omega arith)) in
      ap (λ b. legs_on_day t f tour d n ++ (if b then slice_index tour n ∷ [] else [])) other
      ∙ append-nil (legs_on_day t f tour d n) ∙ none_later n d (λ k below. early k (omega arith))

  pub later_day : (n d : ℕ) → day_of t f tour n < d → first_on (suc n) d ≡ []
  later_day n d late = none_later (suc n) d (λ k below. omega (arith, sum_below-le (nights_after t f tour) k n (omega arith), late))

  next_day : (n : ℕ) → day_of t f tour n + nights_after t f tour n ≡ day_of t f tour (suc n)
  next_day n = omega arith

  -- the lines after so many of the nights that follow a leg
  ended : (n : ℕ) (lines : List (List ℕ)) (line : List ℕ) → lines ≡ list_below (first_on n) (day_of t f tour n) → line ≡ first_on (suc n) (day_of t f tour n)
      → (m : ℕ) → (lines ++ lines_ended line m ≡ list_below (first_on (suc n)) (day_of t f tour n + m)) × (line_after line m ≡ first_on (suc n) (day_of t f tour n + m))
  ended n lines line before now zero =
      let none : day_of t f tour n ≡ day_of t f tour n + 0 = omega arith in
      let same = list_below-agree (first_on n) (first_on (suc n)) (day_of t f tour n) (λ d early. sym (other_early_day n d early)) in
      (append-nil lines ∙ before ∙ same ∙ ap (list_below (first_on (suc n))) none, now ∙ ap (first_on (suc n)) none)
  ended n lines line before now (suc m) =
      let front = ended n lines line before now m in
      let one : (day_of t f tour n + m) + 1 ≡ day_of t f tour n + suc m = omega arith in (
        sym (append_assoc lines (lines_ended line m) (line_after line m ∷ []))
            ∙ ap (λ xs. xs ++ line_after line m ∷ []) front.0
            ∙ ap (λ x. list_below (first_on (suc n)) (day_of t f tour n + m) ++ x ∷ []) front.1
            ∙ sym (list_below-more (first_on (suc n)) (day_of t f tour n + m))
            ∙ ap (list_below (first_on (suc n))) one,
        sym (later_day n (day_of t f tour n + suc m) (omega arith)),
      )

  -- the lines after a leg and its nights
  pub leg_more : (n leg nights : ℕ) (lines : List (List ℕ)) (line : List ℕ)
      → lines ≡ list_below (λ d. legs_on_day t f tour d n) (day_of t f tour n) → line ≡ legs_on_day t f tour (day_of t f tour n) n
      → leg ≡ slice_index tour n → nights ≡ nights_after t f tour n
      → (lines ++ lines_ended (line ++ leg ∷ []) nights ≡ list_below (λ d. legs_on_day t f tour d (n + 1)) (day_of t f tour (n + 1)))
      × (line_after (line ++ leg ∷ []) nights ≡ legs_on_day t f tour (day_of t f tour (n + 1)) (n + 1))
  unfolding first_on
  leg_more n leg nights lines line before begun is count =
      let now : line ++ leg ∷ [] ≡ first_on (suc n) (day_of t f tour n) = ap (λ xs. xs ++ leg ∷ []) begun ∙ ap (λ l. legs_on_day t f tour (day_of t f tour n) n ++ l ∷ []) is ∙ sym (its_day n) in
      let all = ended n lines (line ++ leg ∷ []) before now nights in
      let place = sym (add-one n) in
      let day : day_of t f tour n + nights ≡ day_of t f tour (n + 1) = ap (λ m. day_of t f tour n + m) count ∙ next_day n ∙ ap (day_of t f tour) place in (
        all.0 ∙ ap (λ k. list_below (λ d. legs_on_day t f tour d k) (day_of t f tour n + nights)) place ∙ ap (list_below (λ d. legs_on_day t f tour d (n + 1))) day,
        all.1 ∙ ap (λ k. legs_on_day t f tour (day_of t f tour n + nights) k) place ∙ ap (λ d. legs_on_day t f tour d (n + 1)) day,
      )

-- the lines of the days before the first leg
empty_lines : (f : ℕ → List ℕ) (n : ℕ) → ((d : ℕ) → f d ≡ []) → (lines_ended [] n ≡ list_below f n) × (line_after [] n ≡ [])
empty_lines f zero none = (refl, refl)
empty_lines f (suc n) none =
    let before = empty_lines f n none in (
      ap (λ xs. xs ++ line_after [] n ∷ []) before.0 ∙ ap (λ x. list_below f n ++ x ∷ []) (before.1 ∙ sym (none n)) ∙ sym (list_below-more f n) ∙ ap (list_below f) (add-one n),
      refl,
    )

pub none_yet : (t : Tables) (f : ℕ) (tour : List ℕ) → (lines_ended [] (first_day t f tour) ≡ list_below (λ d. legs_on_day t f tour d 0) (day_of t f tour 0)) × (line_after [] (first_day t f tour) ≡ [])
none_yet t f tour =
    let begun = empty_lines (λ d. legs_on_day t f tour d 0) (first_day t f tour) (λ d. refl) in
    let same : first_day t f tour ≡ day_of t f tour 0 = omega arith in
    (begun.0 ∙ ap (list_below (λ d. legs_on_day t f tour d 0)) same, begun.1)

-- no fewer lines stand there than days come before the first leg
pub enough_lines : (t : Tables) (f : ℕ) (tour : List ℕ) (n : ℕ) (lines : List (List ℕ)) → lines ≡ list_below (λ d. legs_on_day t f tour d n) (day_of t f tour n) → first_day t f tour ≤ length lines
enough_lines t f tour n lines is = omega (arith, ap length is ∙ length-list_below (λ d. legs_on_day t f tour d n) (day_of t f tour n))

taken : (f : ℕ → List ℕ) (n more : ℕ) → take n (list_below f (n + more)) ≡ list_below f n
taken f n zero =
    let same : n + 0 ≡ n = omega arith in
    ap (λ k. take n (list_below f k)) same ∙ take_all n (list_below f n) (omega (arith, length-list_below f n))
taken f n (suc more) =
    let next : n + suc more ≡ n + more + 1 = omega arith in
    ap (λ k. take n (list_below f k)) next ∙ ap (take n) (list_below-more f (n + more))
    ∙ take-append-le n (list_below f (n + more)) (f (n + more) ∷ []) (omega (arith, length-list_below f (n + more)))
    ∙ taken f n more

-- .. which are so many days less
pub last_lines : (t : Tables) (f : ℕ) (tour : List ℕ) (early : ℕ) (lines : List (List ℕ)) → early ≡ first_day t f tour
    → lines ≡ list_below (λ d. legs_on_day t f tour d (length tour)) (day_of t f tour (length tour)) → take (length lines - early) lines ≡ lines_of t f tour
last_lines t f tour early lines same is =
    let size : length lines ≡ day_of t f tour (length tour) = ap length is ∙ length-list_below (λ d. legs_on_day t f tour d (length tour)) (day_of t f tour (length tour)) in
    let days : length lines - early ≡ days_of_tour t f tour = omega (arith, size, same) in
    ap (λ n. take n lines) days ∙ ap (take (days_of_tour t f tour)) (is ∙ ap (list_below (λ d. legs_on_day t f tour d (length tour))) (turned (first_day t f tour) (days_of_tour t f tour)))
    ∙ taken (λ d. legs_on_day t f tour d (length tour)) (days_of_tour t f tour) (first_day t f tour)
  where
    turned : (a b : ℕ) → a + b ≡ b + a
    turned a b = omega arith
