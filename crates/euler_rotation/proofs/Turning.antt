-- A kept tour from another of its places on is a kept tour.
use Rattle.std.proofs.Common.{◌≡◌, ℕ, suc, ◌+◌, ◌-◌, ◌%◌, ◌<◌, ◌≤◌, ◌==◌, if◌then◌else◌, List, ◌++◌, length, slice_index, slice_index_or, get_or, take, drop, sym, ◌∙◌, ap, subst, inl, inr, arith, length-append, add_comm}
use Rattle.std.proofs.Math.Nat.{mod-add-mod, add-mod_right, mod-eq_of_lt, add_right_comm}
use Rattle.std.proofs.lemmas.Bool.{cases_lt}
use Rattle.std.proofs.lemmas.List.{get_or_append_left, get_or-append_right, get_or-drop, get_or-take, length-drop, length-take-le, same_lists, take-append-drop}
use Rattle.std.proofs.lemmas.Nat.{mod_below}
use Rattle.std.proofs.Math.Numerals.{suc-eq-add-one}
use Rattle.sums.specs.Below.{sum_below}
use Rattle.sums.specs.Places.{list_below}
use Rattle.sums.proofs.Places.{get_or-list_below, length-list_below}
use Rattle.sums.proofs.Sums.{sum_below-agree}
use Rattle.fleet_model.specs.declared.parts.Connection.{Connection}
use Rattle.fleet_model.specs.declared.tables.Tables.{Tables}
use Rattle.fleet_model.specs.Schedule.{legs_in}
use Rattle.lines_of_flying.specs.ground_turns.Maps.{HasTurn, turn_after, turn_at, turns_round}
use Rattle.lines_of_flying.specs.ground_turns.Nights.{IsKeptFor, IsMaintainedFrom, can_maintain, night_round, nights_in_turns, nights_of_tour}
use Rattle.lines_of_flying.specs.declared.ground_turns.nights.Night.{Night}
use Rattle.lines_of_flying.specs.declared.ground_turns.nights.Night.TheVariants as night
use Rattle.lines_of_flying.proofs.ground_turns.NightLists.{nights_append}
use Rattle.euler_rotation.specs.Asked.{AreMet, is_met}
use Rattle.euler_rotation.specs.Tours.{IsKeptTour, IsOrder, times_in, turned_tour}
use Rattle.sums.proofs.Rounds.{mod_cases, moved_entry}
use Rattle.sums.proofs.Turned as round_sums
use Rattle.euler_rotation.proofs.TourTurns.{length_round, tour_from, tour_met, tour_order, turn_round}

-- ---- nights, begun later
module _ (t : Tables) (days : ℕ) (xs ys : List Night) (kept : IsKeptFor t (xs ++ ys) days) where
  long : length (xs ++ ys) ≡ length xs + length ys
  long = length-append xs ys

  long_moved : length (ys ++ xs) ≡ length xs + length ys
  long_moved = length-append ys xs ∙ add_comm (length ys) (length xs)

  some : 0 < length xs + length ys
  some = omega (arith, kept.some, long)

  moved_round : (k : ℕ) → night_round (ys ++ xs) k ≡ night_round (xs ++ ys) (k + length xs)
  moved_round k =
      ap (λ n. slice_index_or (ys ++ xs) (k % n) night.Aloft) long_moved
      ∙ moved_entry night.Aloft xs ys (k % (length xs + length ys)) (mod_below k (length xs + length ys) some)
      ∙ ap (λ j. slice_index_or (xs ++ ys) j night.Aloft) (mod-add-mod k (length xs + length ys) (length xs))
      ∙ ap (λ n. slice_index_or (xs ++ ys) ((k + length xs) % n) night.Aloft) (sym long)

  pub kept_moved : IsKeptFor t (ys ++ xs) days
  kept_moved = record { some = omega (arith, long_moved, some); each = each }
    where
      each : (first : ℕ) → first < length (ys ++ xs) → IsMaintainedFrom t (ys ++ xs) days first
      each first lt =
          let it = kept.each ((first + length xs) % length (xs ++ ys)) (mod_below (first + length xs) (length (xs ++ ys)) kept.some) in
          record {
            after = it.after;
            within = it.within;
            maintained = ap (can_maintain t) (moved_round (first + it.after) ∙ ap (λ j. slice_index_or (xs ++ ys) j night.Aloft) (same first it.after)) ∙ it.maintained;
          }
        where
          same : (first after : ℕ) → (first + after + length xs) % length (xs ++ ys) ≡ ((first + length xs) % length (xs ++ ys) + after) % length (xs ++ ys)
          same first after = ap (λ j. j % length (xs ++ ys)) (add_right_comm first after (length xs)) ∙ sym (mod-add-mod (first + length xs) (length (xs ++ ys)) after)

-- ---- legs, begun later
module _ (legs : List ℕ) (r : ℕ) (less : r < length legs) where
  pub length_turned : length (turned_tour r legs) ≡ length legs
  length_turned = length-list_below (λ k. slice_index legs ((k + r) % length legs)) (length legs)

  pub entry_turned : (k : ℕ) → k < length legs → slice_index (turned_tour r legs) k ≡ slice_index legs ((k + r) % length legs)
  entry_turned k lt = get_or-list_below (λ k. slice_index legs ((k + r) % length legs)) (length legs) k 0 lt

  within : (k : ℕ) → (k + r) % length legs < length legs
  within k = mod_below (k + r) (length legs) (omega arith)

  -- the place that follows
  next_place : (k : ℕ) → (suc k % length legs + r) % length legs ≡ suc ((k + r) % length legs) % length legs
  next_place k =
      mod-add-mod (suc k) (length legs) r ∙ ap (λ j. j % length legs) (one_on k r)
      ∙ sym (ap (λ j. j % length legs) (suc-eq-add-one ((k + r) % length legs)) ∙ mod-add-mod (k + r) (length legs) 1)
    where
      one_on : (k r : ℕ) → suc k + r ≡ k + r + 1
      one_on k r = omega arith

  pub turn_turned : (k : ℕ) → k < length legs → turn_after (turned_tour r legs) k ≡ turn_after legs ((k + r) % length legs)
  turn_turned k lt =
      let first : slice_index (turned_tour r legs) k ≡ slice_index legs ((k + r) % length legs) = entry_turned k lt in
      let second : slice_index (turned_tour r legs) (suc k % length (turned_tour r legs)) ≡ slice_index legs (suc ((k + r) % length legs) % length legs) =
      ap (λ n. slice_index (turned_tour r legs) (suc k % n)) length_turned ∙ entry_turned (suc k % length legs) (mod_below (suc k) (length legs) (omega arith)) ∙ ap (slice_index legs) (next_place k) in
      ap (λ l. record { arriving = l; departing = slice_index (turned_tour r legs) (suc k % length (turned_tour r legs)) }) first
      ∙ ap (λ m. record { arriving = slice_index legs ((k + r) % length legs); departing = m }) second

  times_turned : (l : ℕ) → times_in (turned_tour r legs) l ≡ times_in legs l
  times_turned l =
      ap (sum_below (λ k. if slice_index (turned_tour r legs) k == l then 1 else 0)) length_turned
      ∙ sum_below-agree (λ k. if slice_index (turned_tour r legs) k == l then 1 else 0) (λ k. one ((k + r) % length legs)) (length legs)
      (record { each = λ k lt. ap (λ j. if j == l then 1 else 0) (entry_turned k lt) })
      ∙ round_sums.turned one (length legs) r
    where
      one : ℕ → ℕ
      one k = if slice_index legs k == l then 1 else 0

  -- the turns, those from the place on first
  turns_turned : turns_round (turned_tour r legs) ≡ drop r (turns_round legs) ++ take r (turns_round legs)
  turns_turned = same_lists (turns_round (turned_tour r legs)) (drop r (turns_round legs) ++ take r (turns_round legs)) lengths each
    where
      size : length (turns_round legs) ≡ length legs
      size = length_round legs

      front : length (drop r (turns_round legs)) ≡ length legs - r
      front = length-drop r (turns_round legs) ∙ ap (λ n. n - r) size

      rear : length (take r (turns_round legs)) ≡ r
      rear = length-take-le r (turns_round legs) (omega (arith, size))

      lengths : length (turns_round (turned_tour r legs)) ≡ length (drop r (turns_round legs) ++ take r (turns_round legs))
      lengths = length_round (turned_tour r legs) ∙ length_turned ∙ omega (arith, length-append (drop r (turns_round legs)) (take r (turns_round legs)), front, rear)

      here : (k : ℕ) (d : Connection) → k < length legs → get_or (turns_round (turned_tour r legs)) k d ≡ turn_after legs ((k + r) % length legs)
      here k d lt =
          ap (λ n. get_or (list_below (turn_after (turned_tour r legs)) n) k d) length_turned
          ∙ get_or-list_below (turn_after (turned_tour r legs)) (length legs) k d lt ∙ turn_turned k lt

      there : (k : ℕ) (d : Connection) → k < length legs → get_or (drop r (turns_round legs) ++ take r (turns_round legs)) k d ≡ turn_after legs ((k + r) % length legs)
      there k d lt = elim (cases_lt k (length legs - r)) [
        | inl early ↦
            get_or_append_left (drop r (turns_round legs)) (take r (turns_round legs)) d k (omega (arith, front)) ∙ get_or-drop r (turns_round legs) k d
            ∙ get_or-list_below (turn_after legs) (length legs) (r + k) d (omega arith) ∙ ap (turn_after legs) (first k r (length legs) early)
        | inr late ↦
            get_or-append_right (drop r (turns_round legs)) (take r (turns_round legs)) (length legs - r) k d front late
            ∙ get_or-take r (turns_round legs) (k - (length legs - r)) d (omega arith)
            ∙ get_or-list_below (turn_after legs) (length legs) (k - (length legs - r)) d (omega arith) ∙ ap (turn_after legs) (second k r (length legs) lt less late)
      ]
        where
          first : (k r n : ℕ) → k < n - r → r + k ≡ (k + r) % n
          first k r n lt = add_comm r k ∙ sym (mod-eq_of_lt (sum_low k r n lt))
            where
              sum_low : (k r n : ℕ) → k < n - r → k + r < n
              sum_low k r n lt = omega arith

          second : (k r n : ℕ) → k < n → r < n → n - r ≤ k → k - (n - r) ≡ (k + r) % n
          second k r n lt less late = elim (mod_cases (k + r) n (omega arith)) [ inl low ↦ absurd (omega (arith, low.1)) | inr high ↦ same k r n less late ∙ sym high.0 ]
            where
              same : (k r n : ℕ) → r < n → n - r ≤ k → k - (n - r) ≡ k + r - n
              same k r n less late = omega arith

      each : (k : ℕ) (d : Connection) → k < length (turns_round (turned_tour r legs)) → get_or (turns_round (turned_tour r legs)) k d ≡ get_or (drop r (turns_round legs) ++ take r (turns_round legs)) k d
      each k d lt =
          let low : k < length legs = omega (arith, length_round (turned_tour r legs), length_turned) in
          here k d low ∙ sym (there k d low)

  -- ---- the kept tour
  pub kept_turned : (t : Tables) (a : List ℕ) (f : ℕ) (pairs : List Connection) (days : ℕ) → IsKeptTour t a f pairs days legs → IsKeptTour t a f pairs days (turned_tour r legs)
  kept_turned t a f pairs days kept = record {
    tour = tour_from t a f kept.tour.fitting.map.plain (turned_tour r legs) (omega (arith, length_turned)) met order;
    holds = record { each = holds };
    kept = nights;
  }
    where
      met : AreMet t a f (turned_tour r legs) (length (turned_tour r legs))
      met = record {
        each = λ k lt. ap (is_met t a f) (turn_turned k (omega (arith, length_turned))) ∙ (tour_met t a f legs kept.tour).each ((k + r) % length legs) (within k);
      }

      order : IsOrder t a f (turned_tour r legs)
      order = record {
        known = λ k lt. let low : k < length legs = omega (arith, length_turned) in
            subst (λ (l : ℕ). l < legs_in t) (sym (entry_turned k low)) ((tour_order t a f legs kept.tour).known ((k + r) % length legs) (within k));
        once = λ l lt. times_turned l ∙ (tour_order t a f legs kept.tour).once l lt;
      }

      -- the place that a place of the first tour has
      place_of : ℕ → ℕ
      place_of p = (p + (length legs - r)) % length legs

      place_back : (p : ℕ) → p < length legs → (place_of p + r) % length legs ≡ p
      place_back p lt =
          mod-add-mod (p + (length legs - r)) (length legs) r ∙ ap (λ j. j % length legs) (all p r (length legs) less)
          ∙ add-mod_right p (length legs) ∙ mod-eq_of_lt lt
        where
          all : (p r n : ℕ) → r < n → p + (n - r) + r ≡ p + n
          all p r n less = omega arith

      holds : (k : ℕ) → k < length pairs → HasTurn (turns_round (turned_tour r legs)) (turn_at pairs k)
      holds k lt =
          let has = kept.holds.each k lt in
          let low : has.place < length legs = omega (arith, has.within, length_round legs) in
          let place : place_of has.place < length legs = mod_below (has.place + (length legs - r)) (length legs) (omega arith) in
          record {
            place = place_of has.place;
            within = omega (arith, length_round (turned_tour r legs), length_turned, place);
            there = turn_round (turned_tour r legs) (place_of has.place) (omega (arith, length_turned, place)) ∙ turn_turned (place_of has.place) place
                ∙ ap (turn_after legs) (place_back has.place low) ∙ sym (turn_round legs has.place low) ∙ has.there;
          }

      whole : nights_of_tour t f legs ≡ nights_in_turns t f (take r (turns_round legs)) ++ nights_in_turns t f (drop r (turns_round legs))
      whole = ap (nights_in_turns t f) (sym (take-append-drop r (turns_round legs))) ∙ nights_append t f (take r (turns_round legs)) (drop r (turns_round legs))

      nights : IsKeptFor t (nights_of_tour t f (turned_tour r legs)) days
      nights =
          subst (λ (ns : List Night). IsKeptFor t ns days) (sym (ap (nights_in_turns t f) turns_turned ∙ nights_append t f (drop r (turns_round legs)) (take r (turns_round legs))))
          (kept_moved t days (nights_in_turns t f (take r (turns_round legs))) (nights_in_turns t f (drop r (turns_round legs)))
          (subst (λ (ns : List Night). IsKeptFor t ns days) whole kept.kept))
