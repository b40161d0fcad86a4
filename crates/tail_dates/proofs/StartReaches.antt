-- The reaches of a tour's starts, one after another.
use Rattle.std.proofs.Common.{◌≡◌, ℕ, ◌+◌, ◌-◌, ◌*◌, ◌<◌, ◌≤◌, inl, inr, Bool, List, [], ◌∷◌, ◌++◌, length, slice_index, sym, ◌∙◌, ap, subst, arith}
use Rattle.std.proofs.lemmas.Bool.{cases_lt}
use Rattle.std.proofs.Math.Nat.{mul-le-mul_left, mul_comm}
use Rattle.std.proofs.lemmas.List.{get_or_append_left, get_or_push, length-append}
use Rattle.fleet_model.specs.declared.tables.Tables.{Tables}
use Rattle.fleet_model.specs.Counts.{weights_of}
use Rattle.fleet_model.specs.Use.{used_of}
use Rattle.fleet_model.proofs.PeriodMinutes.{few_days}
use Rattle.lines_of_flying.specs.ground_turns.Maps.{IsTour}
use Rattle.lines_of_flying.proofs.TourLines.{days_are_use}
use Rattle.lines_of_flying.proofs.WholeTours.{first_day_early}
use Rattle.lines_of_flying.specs.Lines.{BeginsAfterStart, first_day, legs_on_day, nights_after}
use Rattle.sums.proofs.Places.{length-list_below}
use Rattle.sums.proofs.SumBounds.{term_le}
use Rattle.sums.specs.Below.{sum_below}
use Rattle.tail_dates.specs.Reaches.{AreReaches, HasReach, IsReach, maintenance_nights, night_ending, start_line}
use Rattle.tail_dates.proofs.Nights.{all_nights}

pub reaches_more : (t : Tables) (f : ℕ) (tour : List ℕ) (day : ℕ) (reaches grown : List ℕ) (start reach : ℕ) → AreReaches t f tour day start reaches
    → grown ≡ reaches ++ reach ∷ [] → HasReach t f tour (start_line t day start) reach → AreReaches t f tour day (start + 1) grown
reaches_more t f tour day reaches grown start reach so_far pushed new = record {
  each_start = ap length pushed ∙ length-append reaches (reach ∷ []) ∙ ap (λ n. n + 1) so_far.each_start;
  each = λ k below. elim (cases_lt k start) [
    | inl less ↦
        subst (HasReach t f tour (start_line t day k))
        (sym (ap (λ xs. slice_index xs k) pushed ∙ get_or_append_left reaches (reach ∷ []) 0 k (omega (arith, less, so_far.each_start)))) (so_far.each k less)
    | inr ge ↦
        let same : start ≡ k = omega (arith, below, ge) in
        subst (λ n. HasReach t f tour (start_line t day n) (slice_index grown n)) same
        (subst (HasReach t f tour (start_line t day start)) (sym (ap (λ xs. slice_index xs start) pushed ∙ get_or_push reaches reach 0 start so_far.each_start)) new)
  ];
}

-- ---- how many nights there are, of a tour of so many aircraft
module _ (t : Tables) (a : List ℕ) (f : ℕ) (tour : List ℕ) (is : IsTour t a f tour) where
  pub first_day_fits : BeginsAfterStart t f tour → first_day t f tour ≤ length (maintenance_nights t f tour)
  first_day_fits begins =
      let early = first_day_early t f tour a is begins in
      let last = term_le (nights_after t f tour) (length tour - 1) (length tour) (omega (arith, is.some)) in
      let days = length-list_below (λ d. legs_on_day t f tour d (length tour)) (sum_below (nights_after t f tour) (length tour)) in
      omega (arith, early, last, days, days_are_use t a f tour is, all_nights t a f tour is)

  pub nights_few : used_of t (weights_of a) f < 4294967296 → length (maintenance_nights t f tour) < 34359738368
  nights_few few = omega (arith, all_nights t a f tour is, mul-le-mul_left (used_of t (weights_of a) f) (few_days t), few)

-- a start's line is one of the tour's
pub line_within : (start day used days : ℕ) → start < used → day < days → start * days + day < used * days
line_within start day used days within inside =
    let room : days * (start + 1) ≤ days * used = mul-le-mul_left days (omega (arith, within)) in
    omega (arith, room, mul_comm start days, mul_comm used days, more start days, inside)
  where
    more : (m n : ℕ) → n * (m + 1) ≡ n * m + n
    more m n = grind arith

-- its first night lies in the nights, or in as many more
pub first_few : (nights early start day used days most : ℕ) → nights ≡ used * days → start < used → day < days → nights < most → nights - early + (start * days + day) < 2 * most
first_few nights early start day used days most all within inside few = omega (arith, all, line_within start day used days within inside, few)

pub reach_is : (t : Tables) (f : ℕ) (tour : List ℕ) (nights : List Bool) (line first reach : ℕ) → nights ≡ maintenance_nights t f tour
    → first ≡ night_ending t f tour line → IsReach nights first reach → HasReach t f tour line reach
reach_is t f tour nights line first reach same place is =
    subst (λ n. IsReach (maintenance_nights t f tour) n reach) place (subst (λ ns. IsReach ns first reach) same is)
