-- Starts by rank at each place begin where tails are, and where a place lacks tails or is late no starts in time do.
use Rattle.std.proofs.Common.{◌≡◌, ℕ, ◌+◌, ◌&&◌, ◌<◌, ◌≤◌, ◌==◌, inl, inr, Bool, true, false, nat_le, if◌then◌else◌, List, [], length, slice_index, slice_index_or, Option, Some, None, Result, Ok, Err, IfOk, refl, sym, ◌∙◌, ap, subst, arith}
use Rattle.std.proofs.lemmas.Bool.Decides.{nat_tests}
use Rattle.fleet_model.specs.Counts.{weights_of}
use Rattle.fleet_model.specs.Use.{used_of}
use Rattle.fleet_model.specs.declared.tables.Tables.{Tables}
use Rattle.fleet_model.specs.Schedule.{days_in}
use Rattle.sums.specs.Below.{count_below, sum_below}
use Rattle.sums.proofs.Sums.{sum_below-add, sum_below-agree, sum_below-ones}
use Rattle.tail_dates.specs.InTime.{AnswersInTime, AnswersNone, AreInTimeThere, BeginsThere, GivesStarts, ShowsNone}
use Rattle.tail_dates.specs.Late.{IsLateAt}
use Rattle.tail_dates.specs.Places.{AreStartPlaces, place_of_line, place_number, place_numbered, places_in, told_numbers}
use Rattle.tail_dates.specs.Placing.{AreNotLate, AreStarts, AreStartsThere, IsAnswer, IsPlaced, IsStartOf, ats_of, lefts_of, rank_in}
use Rattle.tail_dates.specs.Reaches.{start_line}
use Rattle.tail_dates.specs.There.{IsLacking, keys, those_at}
use Rattle.tail_dates.specs.declared.placing.Placed.{Placed}
use Rattle.tail_dates.specs.declared.placing.Placed.TheVariants as placed
use Rattle.tail_dates.specs.declared.tails.Place.{Place}
use Rattle.tail_dates.specs.declared.tails.TailState.{TailState}
use Rattle.tail_dates.proofs.AtPlaces.{keys_long, ranked_there, those_counted}
use Rattle.tail_dates.proofs.InTime.{its_reach, none_in_time, starts_in_time, weigh_no_more}
use Rattle.tail_dates.proofs.Ranking.{ranked_in_time}
use Rattle.tail_dates.proofs.Told.{all_told, none_told, one_each_of}
use Rattle.tail_dates.proofs.TourPlaces.{number_back}

-- two places of one number of the tables are one
one_place : (t : Tables) (p q : Place) → place_number t q < places_in t → place_number t p ≡ place_number t q → p ≡ q
one_place t p q known same = number_back t p (omega (arith, known, same)) ∙ ap (place_numbered t) same ∙ sym (number_back t q known)

-- those that are other than one
others : (places : List ℕ) (p n : ℕ) → sum_below (λ k. if slice_index places k == p then 0 else 1) n + count_below (λ k. slice_index places k == p) n ≡ n
others places p n =
    sym (sum_below-add (λ k. if slice_index places k == p then 0 else 1) (λ k. if slice_index places k == p then 1 else 0) n)
    ∙ sum_below-agree _ (λ k. 1) n (record { each = λ k below. either (slice_index places k == p) }) ∙ sum_below-ones n
  where
    either : (b : Bool) → ◌≡◌ {A = ℕ} ((if b then 0 else 1) + (if b then 1 else 0)) 1
    either true = refl
    either false = refl

module _ (t : Tables) (f : ℕ) (tour lefts : List ℕ) (ats : List (Option Place)) (day used : ℕ) (inside : day < days_in t) (one_each : length ats ≡ length lefts) where
  abbrev told : List ℕ
  told = told_numbers t ats

  -- ---- where no place is told
  anywhere : (reaches lines : List ℕ) → AreNotLate t f tour day lefts used reaches → told ≡ [] → AreStarts t day lefts reaches lines → AreInTimeThere t f tour day used lefts ats lines
  anywhere reaches lines not_late none starts = record {
    in_time = starts_in_time t f tour lefts reaches day used inside not_late.as_many not_late.are_reaches lefts reaches lines refl not_late.are_reaches.each_start
        (λ start tail started tailed same. ranked_in_time lefts reaches not_late.never start tail tailed same) starts;
    there = λ k below. subst (BeginsThere t f tour (slice_index lines k)) (sym (none_told t ats none k (omega (arith, below, one_each)))) tt;
  }

  -- ---- where all are told
  module _ (reaches places : List ℕ) (not_late : AreNotLate t f tour day lefts used reaches) (all : length told ≡ used) (are : AreStartPlaces t f tour day used places) where
    told_long : length told ≡ length lefts
    told_long = all ∙ sym not_late.as_many

    its_place : (k : ℕ) → k < length lefts → (p : Place) × (slice_index_or ats k None ≡ Some p) × (slice_index told k ≡ place_number t p)
    its_place k below = all_told t ats (told_long ∙ sym one_each) k (omega (arith, below, one_each))

    reaches_long : length lefts ≡ length reaches
    reaches_long = not_late.as_many ∙ sym not_late.are_reaches.each_start

    places_long : length places ≡ length reaches
    places_long = are.each_start ∙ sym not_late.are_reaches.each_start

    starts_there : (lines : List ℕ) → AreStartsThere t day lefts told reaches places lines → AreInTimeThere t f tour day used lefts ats lines
    starts_there lines is = record {
      in_time = starts_in_time t f tour lefts reaches day used inside not_late.as_many not_late.are_reaches (keys told lefts) (keys places reaches) lines
          (keys_long told lefts told_long is.few_lefts) (keys_long places reaches places_long is.few_reaches ∙ not_late.are_reaches.each_start)
          (λ start tail started tailed same. (ranked start tail started tailed same).1) is.starts;
      there = λ k below. begins k below (its_place k below) (is.starts.each k (omega (arith, below, keys_long told lefts told_long is.few_lefts)));
    }
      where
        ranked : (start tail : ℕ) → start < used → tail < length lefts → rank_in (keys places reaches) start ≡ rank_in (keys told lefts) tail
            → (slice_index places start ≡ slice_index told tail) × (slice_index reaches start ≤ slice_index lefts tail)
        ranked start tail started tailed same =
            ranked_there told lefts places reaches (places_in t) told_long places_long reaches_long is.few_lefts is.few_reaches
            (record { each = λ k below. are.known k (omega (arith, below, are.each_start)) }) is.none_lacks is.none_late
            start tail (omega (arith, started, not_late.are_reaches.each_start)) tailed same

        begins : (k : ℕ) → k < length lefts → (p : Place) × (slice_index_or ats k None ≡ Some p) × (slice_index told k ≡ place_number t p)
            → IsStartOf t day (keys told lefts) (keys places reaches) k (slice_index lines k) → BeginsThere t f tour (slice_index lines k) (slice_index_or ats k None)
        begins k below its own =
            let started : own.start < used = omega (arith, own.within, keys_long places reaches places_long is.few_reaches, not_late.are_reaches.each_start) in
            let line : place_of_line t f tour (slice_index lines k) ≡ place_of_line t f tour (start_line t day own.start) = ap (place_of_line t f tour) own.its_line in
            let number : place_number t (place_of_line t f tour (start_line t day own.start)) ≡ place_number t its.0 = sym (are.each own.start started) ∙ (ranked own.start k started below own.same_rank).0 ∙ its.2 in
            let known : place_number t its.0 < places_in t = omega (arith, are.known own.start started, are.each own.start started, number) in
            subst (BeginsThere t f tour (slice_index lines k)) (sym its.1) (line ∙ one_place t (place_of_line t f tour (start_line t day own.start)) its.0 known number)

    -- ---- where some choice has each tail at its place
    module _ (lines : List ℕ) (is : AreInTimeThere t f tour day used lefts ats lines) where
      same_there : (k : ℕ) (below : k < length lefts) → slice_index told k ≡ slice_index places (is.in_time.each k below).start
      same_there k below =
          let its = its_place k below in
          let one = is.in_time.each k below in
          let begins : place_of_line t f tour (slice_index lines k) ≡ its.0 = subst (BeginsThere t f tour (slice_index lines k)) its.1 (is.there k below) in
          its.2 ∙ ap (place_number t) (sym begins ∙ ap (place_of_line t f tour) one.its_line) ∙ sym (are.each one.start one.within)

      none_lacking : (p : ℕ) → ¬ (IsLacking told places p)
      none_lacking p lacks =
          let weights = weigh_no_more t f tour lefts reaches day used inside not_late.as_many not_late.are_reaches lines is.in_time
          (λ k. if slice_index told k == p then 0 else 1) (λ s. if slice_index places s == p then 0 else 1)
          (λ k below. same_weight (slice_index told k) (slice_index places (is.in_time.each k below).start) p (same_there k below)) in
          let tails = ap (sum_below (λ k. if slice_index told k == p then 0 else 1)) (sym told_long) in
          let starts = ap (sum_below (λ s. if slice_index places s == p then 0 else 1)) (sym are.each_start) in
          omega (arith, lacks, weights, tails, starts, others told p (length told), others places p (length places), told_long, not_late.as_many, are.each_start)
        where
          same_weight : (x y p : ℕ) → x ≡ y → (if x == p then 0 else 1) ≤ (if y == p then 0 else 1)
          same_weight x y p e = omega (arith, ap {B = ℕ} (λ n. if n == p then 0 else 1) e)

      none_late_there : (p nights : ℕ) → ¬ (IsLateAt (those_at told lefts p) (those_at places reaches p) nights)
      none_late_there p nights late =
          let weights = weigh_no_more t f tour lefts reaches day used inside not_late.as_many not_late.are_reaches lines is.in_time
          (λ k. if (slice_index told k == p) && nat_le (slice_index lefts k) nights then 1 else 0) (λ s. if (slice_index places s == p) && nat_le (slice_index reaches s) nights then 1 else 0)
          (λ k below. no_later (slice_index told k) (slice_index places (is.in_time.each k below).start) p (slice_index lefts k) (slice_index reaches (is.in_time.each k below).start) nights (same_there k below)
          (its_reach t f tour lefts reaches day used inside not_late.as_many not_late.are_reaches lines is.in_time k below)) in
          let starts = ap (sum_below (λ s. if (slice_index places s == p) && nat_le (slice_index reaches s) nights then 1 else 0)) not_late.are_reaches.each_start in
          omega (arith, late, weights, starts, those_counted told lefts p nights (length lefts), those_counted places reaches p nights (length reaches))
        where
          no_later : (x y p left reach nights : ℕ) → x ≡ y → reach ≤ left → (if (x == p) && nat_le left nights then 1 else 0) ≤ (if (y == p) && nat_le reach nights then 1 else 0)
          no_later x y p left reach nights e le = grind (arith, nat_tests)

  -- ---- each answer
  pub in_time_of : (answer : Placed) → IsAnswer t f tour day lefts told used answer → AnswersInTime t f tour day used lefts ats answer
  in_time_of (placed.WrongNumber tails all) is = tt
  in_time_of (placed.Late within tails starts) is = tt
  in_time_of (placed.SomeAt at tails) is = tt
  in_time_of (placed.Lacks place tails starts) is = tt
  in_time_of (placed.LateAt place within tails starts) is = tt
  in_time_of (placed.Lines lines) (inl is) = anywhere is.reaches lines is.not_late is.none_told is.starts
  in_time_of (placed.Lines lines) (inr is) = starts_there is.reaches is.places is.not_late is.all_told is.are_places lines is.there

  pub none_of : (answer : Placed) → IsAnswer t f tour day lefts told used answer → AnswersNone t f tour day used lefts ats answer
  none_of (placed.WrongNumber tails all) is = tt
  none_of (placed.Late within tails starts) is = none_in_time t f tour lefts is.reaches day used inside is.as_many is.are_reaches within is.first.late
  none_of (placed.SomeAt at tails) is = tt
  none_of (placed.Lacks place tails starts) is = λ lines own. none_lacking is.reaches is.places is.not_late is.all_told is.are_places lines own (place_number t place) is.there.first.lacks
  none_of (placed.LateAt place within tails starts) is =
      λ lines own. none_late_there is.reaches is.places is.not_late is.all_told is.are_places lines own (place_number t place) within is.there.first.late.late
  none_of (placed.Lines lines) is = tt

-- ---- of a fleet's tails
module _ (t : Tables) (a : List ℕ) (f : ℕ) (tour : List ℕ) (day : ℕ) (tails : List TailState) (inside : day < days_in t) where
  pub placed_in_time : (answer : Placed) → IsPlaced t a f tour day tails answer → GivesStarts t a f tour day tails answer
  placed_in_time answer is = in_time_of t f tour (lefts_of f tails) (ats_of f tails) day (used_of t (weights_of a) f) inside (one_each_of f tails) answer is

  pub given_in_time : {E : Type 0} (result : Result Placed E) → IfOk result (IsPlaced t a f tour day tails) → IfOk result (GivesStarts t a f tour day tails)
  given_in_time (Ok answer) is = placed_in_time answer is
  given_in_time (Err error) is = is

  pub shown_none : {E : Type 0} (result : Result Placed E) → IfOk result (IsPlaced t a f tour day tails) → IfOk result (ShowsNone t a f tour day tails)
  shown_none (Ok answer) is = none_of t f tour (lefts_of f tails) (ats_of f tails) day (used_of t (weights_of a) f) inside (one_each_of f tails) answer is
  shown_none (Err error) is = is
