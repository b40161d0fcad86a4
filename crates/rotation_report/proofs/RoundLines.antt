-- The lines of a tour, begun at any of them, are its legs.
use Rattle.std.proofs.Common.{◌≡◌, ℕ, suc, ◌+◌, ◌*◌, ◌%◌, ◌<◌, ◌≤◌, IsPermutation, List, [], ◌∷◌, ◌++◌, length, slice_index_or, get_or, take, drop, sym, ◌∙◌, ap, subst, subst₂, inl, inr, arith, length-append, add_comm, mod-eq_of_lt}
use Rattle.std.specs.List.{concat}
use Rattle.std.proofs.Math.Nat.{add-mod_right, mod-add-mod}
use Rattle.std.proofs.lemmas.Bool.{cases_lt}
use Rattle.std.proofs.lemmas.List.{length-take-le, take-append-drop}
use Rattle.std.proofs.lemmas.List.Folds.{concat-append}
use Rattle.std.proofs.lemmas.List.FromFn.{fill_by_all}
use Rattle.std.proofs.lemmas.List.Sorted.{IsPermutation-append_comm}
use Rattle.std.proofs.lemmas.Nat.{mod_below}
use Rattle.fleet_model.specs.declared.tables.Tables.{Tables}
use Rattle.fleet_model.specs.Counts.{weights_of}
use Rattle.fleet_model.specs.Use.{used_of}
use Rattle.fleet_model.specs.Schedule.{days_in}
use Rattle.lines_of_flying.specs.ground_turns.Maps.{IsTour}
use Rattle.lines_of_flying.specs.Lines.{BeginsAfterStart, lines_of}
use Rattle.lines_of_flying.proofs.TourLines.{days_are_use}
use Rattle.lines_of_flying.proofs.WholeTours.{lines_are_tour}
use Rattle.rotation_report.specs.TailLaws.{ComesToNextLine, EachAircraftFliesAll, FollowsNextAircraft, flown_by, lines_by_plan}
use Rattle.rotation_report.specs.Tails.{line_on}
use Rattle.sums.specs.Places.{list_below}
use Rattle.sums.proofs.Rounds.{all_round, moved_entry}
use Rattle.sums.proofs.Places.{list_below-agree}

-- ---- lists of lines, going round

-- the entries of a list from a place on, going round
abbrev pub round_from : List (List ℕ) → ℕ → ℕ → List ℕ
round_from lines start k = get_or lines ((k + start) % length lines) []

parted : (xs ys : List (List ℕ)) → IsPermutation (concat (list_below (λ k. get_or (xs ++ ys) ((k + length xs) % (length xs + length ys)) []) (length xs + length ys))) (concat (xs ++ ys))
parted xs ys =
    let moved : ys ++ xs ≡ list_below (λ k. get_or (xs ++ ys) ((k + length xs) % (length xs + length ys)) []) (length xs + length ys) =
    fill_by_all (λ k. get_or (xs ++ ys) ((k + length xs) % (length xs + length ys)) []) (ys ++ xs) (length xs + length ys) []
    (length-append ys xs ∙ add_comm (length ys) (length xs)) (moved_entry [] xs ys) in
    subst (λ list. IsPermutation (concat list) (concat (xs ++ ys))) moved
    (subst₂ IsPermutation (sym (concat-append ys xs)) (sym (concat-append xs ys)) (IsPermutation-append_comm (concat ys) (concat xs)))

-- the lines from any place on are all of them
pub all_once : (lines : List (List ℕ)) (start : ℕ) → 0 < length lines → IsPermutation (concat (list_below (round_from lines start) (length lines))) (concat lines)
all_once lines start some =
    let n = length lines in
    let r = start % n in
    let xs = take r lines in
    let ys = drop r lines in
    let whole : xs ++ ys ≡ lines = take-append-drop r lines in
    let taken : length xs ≡ r = length-take-le r lines (omega (arith, mod_below start n some)) in
    let long : length xs + length ys ≡ n = sym (length-append xs ys) ∙ ap length whole in
    let g : ℕ → List ℕ = λ k. get_or (xs ++ ys) ((k + length xs) % (length xs + length ys)) [] in
    let step : (k : ℕ) → (k + start) % n ≡ (k + length xs) % n = λ k.
    ap (λ m. m % n) (add_comm k start) ∙ sym (mod-add-mod start n k) ∙ ap (λ m. m % n) (add_comm r k) ∙ ap (λ j. (k + j) % n) (sym taken) in
    let same : list_below (round_from lines start) n ≡ list_below g (length xs + length ys) =
    list_below-agree (round_from lines start) g n (λ k lt.
    ap (λ m. get_or lines m []) (step k) ∙ ap (λ m. get_or lines ((k + length xs) % m) []) (sym long) ∙ ap (λ list. get_or list ((k + length xs) % (length xs + length ys)) []) (sym whole))
    ∙ ap (list_below g) (sym long) in
    subst₂ (λ list all. IsPermutation (concat list) (concat all)) (sym same) whole (parted xs ys)

some_lines : (lines : List (List ℕ)) (tour : List ℕ) → concat lines ≡ tour → 0 < length tour → 0 < length lines
some_lines [] tour same some = absurd (omega (arith, some, ap length same))
some_lines (line ∷ lines) tour same some = omega arith

-- ---- the lines of a tour

module _ (t : Tables) (a : List ℕ) (f : ℕ) (tour : List ℕ) (is : IsTour t a f tour) (begins : BeginsAfterStart t f tour) where
  lines : List (List ℕ)
  lines = lines_of t f tour

  used : ℕ
  used = used_of t (weights_of a) f

  count : length lines ≡ used * days_in t
  unfolding lines used
  count = days_are_use t a f tour is

  whole : concat lines ≡ tour
  unfolding lines
  whole = lines_are_tour t f tour a is begins

  some : 0 < length lines
  some = some_lines lines tour whole is.some

  pub has_lines : 0 < length (lines_of t f tour)
  unfolding lines
  has_lines = some

  line_is : (d k : ℕ) → line_on t (lines_by_plan t a f tour) d k ≡ get_or lines ((k * days_in t + d) % length lines) []
  unfolding lines used
  line_is d k = ap (λ n. get_or lines ((k * days_in t + d) % n) []) (sym count)

  each_aircraft : (k : ℕ) → IsPermutation (flown_by t (lines_by_plan t a f tour) k (used * days_in t)) tour
  each_aircraft k =
      let same : list_below (λ d. line_on t (lines_by_plan t a f tour) d k) (used * days_in t) ≡ list_below (round_from lines (k * days_in t)) (length lines) =
      list_below-agree (λ d. line_on t (lines_by_plan t a f tour) d k) (round_from lines (k * days_in t)) (used * days_in t) (λ d lt.
      line_is d k ∙ ap (λ j. get_or lines (j % length lines) []) (add_comm (k * days_in t) d))
      ∙ ap (list_below (round_from lines (k * days_in t))) (sym count) in
      subst₂ (λ list legs. IsPermutation (concat list) legs) (sym same) whole (all_once lines (k * days_in t) some)

  next_line : (d k : ℕ) → get_or lines (suc ((k * days_in t + d) % length lines) % length lines) [] ≡ line_on t (lines_by_plan t a f tour) (suc d) k
  next_line d k =
      ap (λ j. get_or lines (j % length lines) []) (plus_one ((k * days_in t + d) % length lines))
      ∙ ap (λ j. get_or lines j []) (mod-add-mod (k * days_in t + d) (length lines) 1)
      ∙ ap (λ j. get_or lines (j % length lines) []) (next (k * days_in t) d)
      ∙ sym (line_is (suc d) k)
    where
      plus_one : (n : ℕ) → suc n ≡ n + 1
      plus_one n = omega arith

      next : (m d : ℕ) → m + d + 1 ≡ m + suc d
      next m d = omega arith

pub each_aircraft_flies_all : EachAircraftFliesAll
unfolding used
each_aircraft_flies_all t a f tour k is begins = each_aircraft t a f tour is begins k

pub comes_to_next_line : ComesToNextLine
unfolding lines
comes_to_next_line t a f tour d k is begins = record {
  place = (k * days_in t + d) % length (lines_of t f tour);
  within = mod_below (k * days_in t + d) (length (lines_of t f tour)) (some t a f tour is begins);
  today_is = line_is t a f tour is begins d k;
  tomorrow_is = sym (next_line t a f tour is begins d k);
}

pub follows_next_aircraft : FollowsNextAircraft
follows_next_aircraft t flown d k below = elim (cases_lt (suc k) flown.used) [
  | inl inside ↦ ap (λ j. slice_index_or flown.lines (j % (flown.used * days_in t)) []) (within (suc k) inside)
  | inr last ↦ ap (λ j. slice_index_or flown.lines j []) (after last)
]
  where
    moved : (k days d : ℕ) → k * days + (d + days) ≡ suc k * days + d
    moved k days d = grind arith

    within : (j : ℕ) → suc k < flown.used → k * days_in t + (d + days_in t) ≡ (suc k % flown.used) * days_in t + d
    within j inside = moved k (days_in t) d ∙ ap (λ n. n * days_in t + d) (sym (mod-eq_of_lt inside))

    around : (days used d : ℕ) → used * days + d ≡ d + used * days
    around days used d = omega arith

    none : (days d : ℕ) → d ≡ 0 * days + d
    none days d = omega arith

    after : flown.used ≤ suc k → (k * days_in t + (d + days_in t)) % (flown.used * days_in t) ≡ ((suc k % flown.used) * days_in t + d) % (flown.used * days_in t)
    after last =
        let all : suc k ≡ flown.used = omega (arith, last, below) in
        let size : ℕ = flown.used * days_in t in
        ap (λ m. m % size) (moved k (days_in t) d ∙ ap (λ n. n * days_in t + d) all ∙ around (days_in t) flown.used d)
        ∙ add-mod_right d size
        ∙ ap (λ m. m % size) (none (days_in t) d ∙ ap (λ n. n * days_in t + d) (sym (ap (λ n. n % flown.used) all ∙ all_round flown.used (omega (arith, below)))))
