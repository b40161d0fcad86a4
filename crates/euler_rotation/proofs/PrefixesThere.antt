-- Each prefix is one of the preorder's entries.
use Rattle.std.proofs.Common.{◌≡◌, ℕ, zero, suc, ◌+◌, ◌-◌, ◌<◌, ◌≤◌, Bool, true, false, ◌&&◌, ◌||◌, ◌==◌, not, if◌then◌else◌, inl, inr, All, List, [], ◌∷◌, ◌++◌, length, slice_index, take, refl, sym, ◌∙◌, ap, subst, arith, length-append}
use Rattle.std.specs.List.{filter, flat_map, list_all}
use Rattle.std.proofs.Math.Seq.{take-suc}
use Rattle.std.proofs.lemmas.Bool.{cases_lt, eq-eqb, eqb-true}
use Rattle.std.proofs.lemmas.List.{get_or_append_left, get_or-append-add, get_or-take, get_or_default, length-take-le, take_all}
use mathlib.Core.Bool.{false≢true}
use Rattle.sums.proofs.Naturals.{one_behind}
use Rattle.sums.proofs.Ranks.{numbers_few}
use Rattle.sums.proofs.Tests.{both_true, by_test}
use Rattle.fleet_model.specs.declared.parts.Connection.{Connection}
use Rattle.fleet_model.specs.declared.tables.Tables.{Tables}
use Rattle.lines_of_flying.specs.ground_turns.Maps.{turn_at}
use Rattle.euler_rotation.specs.Often.{stays_below}
use Rattle.euler_rotation.specs.Prefixes.{has_leg, is_clean, is_open, keeps_pair, may_follow, may_turn, meets, nights_along, preorder, preorder_from, turn_to}
use Rattle.euler_rotation.specs.PrefixLaws.{EachPrefixIsEntry, IsEntry, IsPrefix}
use Rattle.euler_rotation.proofs.Along.{first_nights}
use Rattle.euler_rotation.proofs.Gaps.{often_below, some_place}
use Rattle.euler_rotation.proofs.TourTurns.{clean_from}

-- ---- what holds of all entries
all_left : (P : List ℕ → Type 0) (xs ys : List (List ℕ)) → All P (xs ++ ys) → All P xs
all_left P xs ys all k d lt = subst P (get_or_append_left xs ys d k lt) (all k d (omega (arith, length-append xs ys)))

all_right : (P : List ℕ → Type 0) (xs ys : List (List ℕ)) → All P (xs ++ ys) → All P ys
all_right P xs ys all k d lt = subst P (get_or-append-add xs ys k d) (all (length xs + k) d (omega (arith, length-append xs ys)))

all_tail : (P : List ℕ → Type 0) (x : List ℕ) (xs : List (List ℕ)) → All P (x ∷ xs) → All P xs
all_tail P x xs all k d lt = all (suc k) d (omega arith)

-- of what comes of the numbers that pass, that of one of them
all_picked : (P : List ℕ → Type 0) (g : ℕ → List (List ℕ)) (test : ℕ → Bool) (xs : List ℕ) (j : ℕ) → j < length xs → test (slice_index xs j) ≡ true
    → All P (flat_map g (filter test xs)) → All P (g (slice_index xs j))
all_picked P g test [] j lt passes all = absurd (omega arith)
all_picked P g test (x ∷ xs) zero lt passes all =
    all_left P (g x) (flat_map g (filter test xs)) (subst (λ (ls : List (List ℕ)). All P ls) (ap (λ b. flat_map g (if b then x ∷ filter test xs else filter test xs)) passes) all)
all_picked P g test (x ∷ xs) (suc j) lt passes all = by_test (test x)
    (λ e. all_picked P g test xs j (omega arith) passes (all_right P (g x) (flat_map g (filter test xs)) (subst (λ (ls : List (List ℕ)). All P ls) (ap (λ b. flat_map g (if b then x ∷ filter test xs else filter test xs)) e) all)))
    (λ e. all_picked P g test xs j (omega arith) passes (subst (λ (ls : List (List ℕ)). All P ls) (ap (λ b. flat_map g (if b then x ∷ filter test xs else filter test xs)) e) all))

all_pass : (p : Connection → Bool) (xs : List Connection) → ((k : ℕ) → k < length xs → p (turn_at xs k) ≡ true) → list_all p xs ≡ true
all_pass p [] each = refl
all_pass p (x ∷ xs) each = both_true (p x) (list_all p xs) (each 0 (omega arith)) (all_pass p xs (λ k lt. each (suc k) (omega arith)))

-- where the leg is the same exactly where the partner is
pair_kept : (turn pair : Connection) → (pair.arriving ≡ turn.arriving → pair.departing ≡ turn.departing) → (pair.departing ≡ turn.departing → pair.arriving ≡ turn.arriving) → keeps_pair turn pair ≡ true
pair_kept turn pair there back = by_test (pair.arriving == turn.arriving)
    (λ e. ap (λ b. if b then pair.departing == turn.departing else not (pair.departing == turn.departing)) e ∙ eq-eqb _ _ (there (eqb-true _ _ e)))
    (λ e. ap (λ b. if b then pair.departing == turn.departing else not (pair.departing == turn.departing)) e
    ∙ ap not (by_test (pair.departing == turn.departing) (λ same. absurd (false≢true (sym e ∙ eq-eqb _ _ (back (eqb-true _ _ same))))) (λ other. other)))

-- where a leg stands in a list
abbrev place_of : List ℕ → ℕ → ℕ
place_of [] l = 0
place_of (x ∷ xs) l = if x == l then 0 else suc (place_of xs l)

place_is : (xs : List ℕ) (l : ℕ) → has_leg xs l ≡ true → (place_of xs l < length xs) × (slice_index xs (place_of xs l) ≡ l)
place_is [] l has = absurd (false≢true has)
place_is (x ∷ xs) l has = by_test (x == l)
    (λ e. let here : place_of (x ∷ xs) l ≡ 0 = ap (λ b. if b then 0 else suc (place_of xs l)) e in
    (omega (arith, here), ap (slice_index (x ∷ xs)) here ∙ eqb-true _ _ e))
    (λ e. let rest = place_is xs l (sym (ap (λ b. b || has_leg xs l) e) ∙ has) in
    let later : place_of (x ∷ xs) l ≡ suc (place_of xs l) = ap (λ b. if b then 0 else suc (place_of xs l)) e in
    (omega (arith, later, rest.0), ap (slice_index (x ∷ xs)) later ∙ rest.1))

module _ (t : Tables) (a : List ℕ) (f : ℕ) (pairs : List Connection) (days : ℕ) (some_days : 0 < days) (order legs : List ℕ) (is : IsPrefix t a f pairs days order legs) where
  module _ (k : ℕ) (lt : suc k < length legs) where
    turns_well : may_turn t a f pairs (slice_index legs k) (slice_index legs (suc k)) ≡ true
    turns_well =
        let turn : Connection = turn_to (slice_index legs k) (slice_index legs (suc k)) in
        let beside = is.turn k lt in
        both_true (meets t turn && is_clean t a f turn) (list_all (keeps_pair turn) pairs)
        (both_true (meets t turn) (is_clean t a f turn) (eq-eqb _ _ beside.meets) (clean_from t a f turn beside.clean))
        (all_pass (keeps_pair turn) pairs (λ p within. let agrees = beside.agrees p within in pair_kept turn (turn_at pairs p) agrees.0 agrees.1))

    is_new : has_leg (take (suc k) legs) (slice_index legs (suc k)) ≡ false
    is_new = by_test (has_leg (take (suc k) legs) (slice_index legs (suc k))) (λ has. absurd (twice has)) (λ other. other)
      where
        twice : has_leg (take (suc k) legs) (slice_index legs (suc k)) ≡ true → ⊥
        twice has =
            let place = some_place (λ j. j == slice_index legs (suc k)) 0 (take (suc k) legs) has in
            let low : place.0 < suc k = omega (arith, place.1, length-take-le (suc k) legs (omega arith)) in
            is.once place.0 (suc k) low lt (sym (get_or-take (suc k) legs place.0 0 low) ∙ eqb-true _ _ place.2)

    often : stays_below t days 0 (nights_along t f (take (suc (suc k)) legs)) ≡ true
    often = first_nights t f legs (suc k) lt (length legs - 1) (omega arith) days (often_below t days (nights_along t f legs) some_days is.maintained)

    follows : may_follow t a f pairs days (take k legs) (slice_index legs k) (slice_index legs (suc k)) ≡ true
    follows =
        both_true (may_turn t a f pairs (slice_index legs k) (slice_index legs (suc k))) (is_open t f days (take k legs ++ slice_index legs k ∷ []) (slice_index legs (suc k))) turns_well
        (ap (λ first. is_open t f days first (slice_index legs (suc k))) (sym (take-suc legs k 0 (omega arith)))
        ∙ both_true (not (has_leg (take (suc k) legs) (slice_index legs (suc k)))) (stays_below t days 0 (nights_along t f (take (suc k) legs ++ slice_index legs (suc k) ∷ [])))
        (ap not is_new) (ap (λ first. stays_below t days 0 (nights_along t f first)) (sym (take-suc legs (suc k) 0 lt)) ∙ often))

  -- there are no more than the order has, since none stands twice
  no_more : length legs ≤ length order
  no_more = numbers_few (λ k. place_of order (slice_index legs k)) (length legs) (length order) (λ k lt. (place_is order (slice_index legs k) (is.own k lt)).0) apart
    where
      equal : (j k : ℕ) → j < length legs → k < length legs → place_of order (slice_index legs j) ≡ place_of order (slice_index legs k) → slice_index legs j ≡ slice_index legs k
      equal j k first second same =
          sym (place_is order (slice_index legs j) (is.own j first)).1 ∙ ap (slice_index order) same ∙ (place_is order (slice_index legs k) (is.own k second)).1

      apart : (j k : ℕ) → j < length legs → k < length legs → place_of order (slice_index legs j) ≡ place_of order (slice_index legs k) → j ≡ k
      apart j k first second same = elim (cases_lt j k) [
        | inl less ↦ absurd (is.once j k less second (equal j k first second same))
        | inr more ↦ elim (cases_lt k j) [
          | inl less ↦ absurd (is.once k j less first (sym (equal j k first second same)))
          | inr below ↦ omega (arith, more, below)
        ]
      ]

  reached_from : (P : List ℕ → Type 0) (m n k : ℕ) → k + suc m ≡ length legs → m ≤ n → All P (preorder_from t a f pairs days order (suc n) (take k legs) (slice_index legs k)) → P legs
  reached_from P zero n k long few all =
      subst P (sym (take-suc legs k 0 (omega arith)) ∙ take_all (suc k) legs (omega arith)) (all 0 [] (omega arith))
  reached_from P (suc m) zero k long few all = absurd (omega arith)
  reached_from P (suc m) (suc n) k long few all =
      let place = place_is order (slice_index legs (suc k)) (is.own (suc k) (omega arith)) in
      let rest = all_tail P (take k legs ++ slice_index legs k ∷ []) (flat_map (preorder_from t a f pairs days order (suc n) (take k legs ++ slice_index legs k ∷ []))
      (filter (may_follow t a f pairs days (take k legs) (slice_index legs k)) order)) all in
      let picked = all_picked P (preorder_from t a f pairs days order (suc n) (take k legs ++ slice_index legs k ∷ [])) (may_follow t a f pairs days (take k legs) (slice_index legs k)) order
      (place_of order (slice_index legs (suc k))) place.0 (ap (may_follow t a f pairs days (take k legs) (slice_index legs k)) place.1 ∙ follows k (omega arith)) rest in
      reached_from P m n (suc k) (omega arith) (omega arith)
      (subst (λ (first : List ℕ). All P (preorder_from t a f pairs days order (suc n) first (slice_index legs (suc k)))) (sym (take-suc legs k 0 (omega arith)))
      (subst (λ (j : ℕ). All P (preorder_from t a f pairs days order (suc n) (take k legs ++ slice_index legs k ∷ []) j)) place.1 picked))

  -- what holds of all entries holds of the prefix
  pub holds_there : (P : List ℕ → Type 0) → All P (preorder t a f pairs days order) → P legs
  unfolding preorder
  holds_there P all =
      reached_from P (length legs - 1) (length order - 1) 0 (omega (arith, is.some)) (omega (arith, no_more))
      (subst (λ (l : ℕ). All P (preorder_from t a f pairs days order (suc (length order - 1)) [] l)) (sym is.begins)
      (subst (λ (n : ℕ). All P (preorder_from t a f pairs days order n [] (slice_index order 0))) (one_behind (length order) (omega (arith, is.some, no_more))) all))

pub each_prefix_is_entry : EachPrefixIsEntry
each_prefix_is_entry t a f pairs days order legs some is =
    holds_there t a f pairs days some order legs is (IsEntry (preorder t a f pairs days order))
    (λ k d lt. record { place = k; within = lt; is = get_or_default (preorder t a f pairs days order) k [] d lt })
