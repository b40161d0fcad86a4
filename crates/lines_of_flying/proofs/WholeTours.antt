-- The lines of a tour that begins after a period's start, one after another, are the tour.
use Rattle.std.proofs.Common.{◌≡◌, ◌+◌, ◌-◌, ◌<◌, ◌≤◌, [], ◌∷◌, ◌++◌, ◌∙◌, ◌*◌, ◌%◌, List, ℕ, add-one, ap, append_assoc, arith, length, refl, slice_index, subst, suc, sym, take, take_all, zero}
use Rattle.std.specs.List.{concat}
use Rattle.std.proofs.Math.Seq.{take-suc}
use Rattle.std.proofs.lemmas.List.{append-nil}
use Rattle.std.proofs.lemmas.List.Folds.{concat-append}
use Rattle.std.proofs.Math.Nat.{mul-le-mul_left}
use Rattle.sums.specs.Places.{list_below}
use Rattle.sums.proofs.Places.{get_or-list_below, length-list_below, list_below-agree, list_below-more}
use Rattle.sums.proofs.Rounds.{all_round}
use Rattle.sums.proofs.SumBounds.{sum_below-le}
use Rattle.sums.specs.Below.{sum_below}
use Rattle.fleet_model.specs.declared.tables.Tables.{Tables}
use Rattle.fleet_model.specs.Period.{day_of_minute, minutes_of}
use Rattle.fleet_model.specs.Schedule.{days_in, leg_on, period_of}
use Rattle.fleet_model.specs.Times.{departure}
use Rattle.fleet_model.proofs.PeriodMinutes.{days_are_period}
use Rattle.fleet_model.proofs.PlainTables.{plain_departs}
use Rattle.lines_of_flying.specs.Lines.{BeginsAfterStart, day_of, days_of_tour, first_day, lines_of, nights_after, periods_after}
use Rattle.lines_of_flying.proofs.TourLines.{first_on, its_day, known_legs, later_day, other_early_day}
use Rattle.lines_of_flying.specs.ground_turns.Laws.{TurnByDays}
use Rattle.lines_of_flying.specs.ground_turns.Maps.{IsTour, no_turn, periods_in_turn, turn_after, turn_at, turns_round}
use Rattle.lines_of_flying.specs.ground_turns.Nights.{nights_in}
use Rattle.lines_of_flying.specs.ground_turns.Turns.{departs_at}
use Rattle.lines_of_flying.proofs.ground_turns.TourNights.{nights_by_days}
use Rattle.lines_of_flying.proofs.ground_turns.Waits.{departs_within}

-- one list more
pub joined_more : (f : ℕ → List ℕ) (n : ℕ) → concat (list_below f (suc n)) ≡ concat (list_below f n) ++ f n
joined_more f n =
    ap (λ k. concat (list_below f k)) (sym (add-one n)) ∙ ap concat (list_below-more f n) ∙ concat-append (list_below f n) (f n ∷ [])
    ∙ ap (λ xs. concat (list_below f n) ++ xs) (append-nil (f n))

-- lists of nothing add nothing
pub joined_all : (f : ℕ → List ℕ) (n more : ℕ) → ((k : ℕ) → k < more → f (n + k) ≡ []) → concat (list_below f (n + more)) ≡ concat (list_below f n)
joined_all f n zero none = let same : n + 0 ≡ n = omega arith in ap (λ k. concat (list_below f k)) same
joined_all f n (suc more) none =
    let next : n + suc more ≡ suc (n + more) = omega arith in
    ap (λ k. concat (list_below f k)) next ∙ joined_more f (n + more)
    ∙ ap (λ xs. concat (list_below f (n + more)) ++ xs) (none more (omega arith))
    ∙ append-nil (concat (list_below f (n + more))) ∙ joined_all f n more (λ k below. none k (omega arith))

early_enough : (nights dep next first days minutes periods : ℕ) → nights + day_of_minute dep ≡ days * periods + day_of_minute next → next ≡ first
    → minutes ≡ minutes_of days → dep < minutes → 0 < periods → day_of_minute first < nights
early_enough nights dep next first days minutes periods law same whole within some =
    let low : day_of_minute dep < days = omega (arith, whole, within) in
    let rows : days * 1 ≤ days * periods = mul-le-mul_left days some in
    let day : day_of_minute next ≡ day_of_minute first = ap (λ n. day_of_minute n) same in
    omega (arith, law, low, rows, day)

all_but_one : (n : ℕ) → 0 < n → suc (n - 1) ≡ n
all_but_one n some = omega arith

module _ (t : Tables) (f : ℕ) (tour : List ℕ) where
  none_first : (d : ℕ) → first_on t f tour 0 d ≡ []
  unfolding first_on
  none_first d = refl

  -- the first legs, up to a day after that of the last of them
  first_legs : (n days : ℕ) → n ≤ length tour → ((k : ℕ) → k < n → day_of t f tour k < days) → concat (list_below (first_on t f tour n) days) ≡ take n tour
  first_legs zero days few early =
      let all : 0 + days ≡ days = omega arith in
      ap (λ k. concat (list_below (first_on t f tour 0) k)) (sym all) ∙ joined_all (first_on t f tour 0) 0 days (λ k below. none_first (0 + k))
  first_legs (suc n) days few early =
      let today = day_of t f tour n in
      let late : today < days = early n (omega arith) in
      let split : suc today + (days - suc today) ≡ days = omega arith in
      let before = list_below-agree (first_on t f tour (suc n)) (first_on t f tour n) today (λ d less. other_early_day t f tour n d less) in
      let earlier = first_legs n (suc today) (omega arith) (λ k below. omega (arith, sum_below-le (nights_after t f tour) k n (omega arith))) in
      ap (λ k. concat (list_below (first_on t f tour (suc n)) k)) (sym split)
      ∙ joined_all (first_on t f tour (suc n)) (suc today) (days - suc today) (λ k below. later_day t f tour n (suc today + k) (omega arith))
      ∙ joined_more (first_on t f tour (suc n)) today
      ∙ ap (λ xs. concat xs ++ first_on t f tour (suc n) today) before
      ∙ ap (λ xs. concat (list_below (first_on t f tour n) today) ++ xs) (its_day t f tour n)
      ∙ sym (append_assoc (concat (list_below (first_on t f tour n) today)) (first_on t f tour n today) (slice_index tour n ∷ []))
      ∙ ap (λ xs. xs ++ slice_index tour n ∷ []) (sym (joined_more (first_on t f tour n) today) ∙ earlier)
      ∙ sym (take-suc tour n 0 (omega arith))

  -- more nights lie before a first leg that a period's start lies before than days before it in its period
  pub first_day_early : (a : List ℕ) → IsTour t a f tour → BeginsAfterStart t f tour → first_day t f tour < nights_after t f tour (length tour - 1)
  unfolding nights_after periods_after
  first_day_early a is begins =
      let last = length tour - 1 in
      let within : last < length (turns_round tour) = rw (length-list_below (turn_after tour) (length tour)) (omega (arith, is.some)) in
      let there : turn_at (turns_round tour) last ≡ turn_after tour last = get_or-list_below (turn_after tour) (length tour) last no_turn (omega (arith, is.some)) in
      let law = subst (TurnByDays t f) there (nights_by_days t a f (turns_round tour) last is.fitting.map within) in
      let round : suc last % length tour ≡ 0 = ap (λ n. n % length tour) (all_but_one (length tour) is.some) ∙ all_round (length tour) is.some in
      let first : departs_at t f (turn_after tour last) ≡ departure t (leg_on (slice_index tour 0) f) = ap (λ n. departure t (leg_on (slice_index tour n) f)) round in
      let first_within = subst (λ d. d < period_of t) first (subst (λ turn. departs_at t f turn < period_of t) there (departs_within t a f (turns_round tour) is.fitting.map last within)) in
      let arrives : departure t (leg_on (slice_index tour last) f) < period_of t = plain_departs t (slice_index tour last) f is.fitting.map.plain ((known_legs t a f tour is).each last (omega (arith, is.some))) in
      early_enough (nights_in t f (turn_after tour last)) (departure t (leg_on (slice_index tour last) f)) (departs_at t f (turn_after tour last)) (departure t (leg_on (slice_index tour 0) f))
      (days_in t) (period_of t) (periods_in_turn t f (turn_after tour last)) law first (days_are_period t) arrives begins.before

  pub lines_are_tour : (a : List ℕ) → IsTour t a f tour → BeginsAfterStart t f tour → concat (lines_of t f tour) ≡ tour
  unfolding first_on
  lines_are_tour a is begins =
      let last : suc (length tour - 1) ≡ length tour = omega (arith, is.some) in
      let more = ap (sum_below (nights_after t f tour)) last in
      let early = first_day_early a is begins in
      first_legs (length tour) (days_of_tour t f tour) (omega arith)
      (λ k below. omega (arith, sum_below-le (nights_after t f tour) k (length tour - 1) (omega arith), more, early))
      ∙ take_all (length tour) tour (omega arith)
