-- The turns and nights between the legs of a list, as legs are put behind it, and as those of its first legs.
use Rattle.std.proofs.Common.{◌≡◌, ℕ, zero, suc, ◌+◌, ◌-◌, ◌%◌, ◌<◌, ◌≤◌, true, ◌&&◌, Option, Some, None, List, [], ◌∷◌, ◌++◌, length, slice_index, take, sym, ◌∙◌, ap, arith, append_assoc, length-append, add-one}
use Rattle.std.proofs.Math.Nat.{mod-eq_of_lt}
use Rattle.std.proofs.lemmas.List.{append-nil, get_or_append_left, get_or-take, length-take-le}
use Rattle.std.proofs.Math.Seq.{get_or-append_seam}
use Rattle.sums.specs.Places.{list_below}
use Rattle.sums.proofs.Places.{list_below-agree, list_below-more}
use Rattle.sums.proofs.Tests.{parts_true}
use Rattle.sums.proofs.Naturals.{plus_0}
use Rattle.fleet_model.specs.declared.parts.Connection.{Connection}
use Rattle.fleet_model.specs.declared.tables.Tables.{Tables}
use Rattle.lines_of_flying.specs.ground_turns.Maps.{turn_after}
use Rattle.lines_of_flying.specs.ground_turns.Nights.{nights_in_turn, nights_in_turns}
use Rattle.euler_rotation.specs.Often.{GoesOn, nights_since, stays_below}
use Rattle.euler_rotation.specs.Prefixes.{nights_along, turn_to, turns_along}
use Rattle.euler_rotation.proofs.NightsSince.{below_append, since_append}
use Rattle.lines_of_flying.proofs.ground_turns.NightLists.{nights_append}

-- lists with the same first legs have the same first turns
turn_agree : (xs ys : List ℕ) (n : ℕ) → n < length xs → n < length ys → ((j : ℕ) → j ≤ n → slice_index xs j ≡ slice_index ys j) → (j : ℕ) → j < n → turn_after xs j ≡ turn_after ys j
turn_agree xs ys n first second same j lt =
    let arrives : slice_index xs j ≡ slice_index ys j = same j (omega arith) in
    let departs : slice_index xs (suc j % length xs) ≡ slice_index ys (suc j % length ys) =
    ap (slice_index xs) (mod-eq_of_lt (below j n (length xs) lt first)) ∙ same (suc j) (next j n lt) ∙ ap (slice_index ys) (sym (mod-eq_of_lt (below j n (length ys) lt second))) in
    ap (λ l. record { arriving = l; departing = slice_index xs (suc j % length xs) }) arrives ∙ ap (λ m. record { arriving = slice_index ys j; departing = m }) departs
  where
    below : (j n m : ℕ) → j < n → n < m → suc j < m
    below j n m lt h = omega arith

    next : (j n : ℕ) → j < n → suc j ≤ n
    next j n lt = omega arith

turns_agree : (xs ys : List ℕ) (n : ℕ) → n < length xs → n < length ys → ((j : ℕ) → j ≤ n → slice_index xs j ≡ slice_index ys j) → list_below (turn_after xs) n ≡ list_below (turn_after ys) n
turns_agree xs ys n first second same = list_below-agree (turn_after xs) (turn_after ys) n (turn_agree xs ys n first second same)

-- ---- a leg more
module _ (front : List ℕ) (last l : ℕ) where
  before : List ℕ
  before = front ++ last ∷ []

  size : length before ≡ suc (length front)
  unfolding before
  size = length-append front (last ∷ []) ∙ add-one (length front)

  size_more : length (before ++ l ∷ []) ≡ suc (suc (length front))
  size_more = length-append before (l ∷ []) ∙ ap (λ n. n + 1) size ∙ add-one (suc (length front))

  last_turn : turn_after (before ++ l ∷ []) (length front) ≡ turn_to last l
  unfolding before
  last_turn =
      let arrives : slice_index (before ++ l ∷ []) (length front) ≡ last =
      get_or_append_left before (l ∷ []) 0 (length front) (omega (arith, size)) ∙ get_or-append_seam front last [] 0 in
      let departs : slice_index (before ++ l ∷ []) (suc (length front) % length (before ++ l ∷ [])) ≡ l =
      ap (λ n. slice_index (before ++ l ∷ []) (suc (length front) % n)) size_more
      ∙ ap (slice_index (before ++ l ∷ [])) (mod-eq_of_lt (next (length front)) ∙ sym size)
      ∙ get_or-append_seam before l [] 0 in
      ap (λ k. record { arriving = k; departing = slice_index (before ++ l ∷ []) (suc (length front) % length (before ++ l ∷ [])) }) arrives ∙ ap (λ m. record { arriving = last; departing = m }) departs
    where
      next : (n : ℕ) → suc n < suc (suc n)
      next n = omega arith

  turns_more : turns_along (before ++ l ∷ []) ≡ turns_along before ++ turn_to last l ∷ []
  turns_more =
      ap (λ n. list_below (turn_after (before ++ l ∷ [])) (n - 1)) size_more
      ∙ ap (list_below (turn_after (before ++ l ∷ []))) (one_less (length front))
      ∙ list_below-more (turn_after (before ++ l ∷ [])) (length front)
      ∙ ap (λ xs. xs ++ turn_after (before ++ l ∷ []) (length front) ∷ [])
      (turns_agree (before ++ l ∷ []) before (length front) (omega (arith, size_more)) (omega (arith, size)) (λ j le. get_or_append_left before (l ∷ []) 0 j (omega (arith, size, le)))
      ∙ ap (list_below (turn_after before)) (sym (less_one (length front)) ∙ ap (λ n. n - 1) (sym size)))
      ∙ ap (λ turn. turns_along before ++ turn ∷ []) last_turn
    where
      one_less : (n : ℕ) → suc (suc n) - 1 ≡ n + 1
      one_less n = omega arith

      less_one : (n : ℕ) → suc n - 1 ≡ n
      less_one n = omega arith

  module _ (t : Tables) (f days : ℕ) where
    nights_more : nights_along t f (before ++ l ∷ []) ≡ nights_along t f before ++ nights_in_turn t f (turn_to last l)
    nights_more =
        ap (nights_in_turns t f) turns_more ∙ nights_append t f (turns_along before) (turn_to last l ∷ [])
        ∙ ap (λ ns. nights_along t f before ++ ns) (append-nil (nights_in_turn t f (turn_to last l)))

    -- what the nights without maintenance come to
    pub goes_on : (since : ℕ) → stays_below t days 0 (nights_along t f (front ++ last ∷ [])) ≡ true → since ≡ nights_since t 0 (nights_along t f (front ++ last ∷ [])) → (more : Option ℕ)
        → GoesOn t days since (nights_in_turn t f (turn_to last l)) more → GoesOn t days 0 (nights_along t f ((front ++ last ∷ []) ++ l ∷ [])) more
    unfolding before
    goes_on since below is None over =
        ap (stays_below t days 0) nights_more ∙ below_append t days 0 (nights_along t f before) (nights_in_turn t f (turn_to last l))
        ∙ ap (λ b. b && stays_below t days (nights_since t 0 (nights_along t f before)) (nights_in_turn t f (turn_to last l))) below
        ∙ ap (λ n. stays_below t days n (nights_in_turn t f (turn_to last l))) (sym is) ∙ over
    goes_on since below is (Some more) stays = record {
      below = ap (stays_below t days 0) nights_more ∙ below_append t days 0 (nights_along t f before) (nights_in_turn t f (turn_to last l))
          ∙ ap (λ b. b && stays_below t days (nights_since t 0 (nights_along t f before)) (nights_in_turn t f (turn_to last l))) below
          ∙ ap (λ n. stays_below t days n (nights_in_turn t f (turn_to last l))) (sym is) ∙ stays.below;
      since_is = stays.since_is ∙ ap (λ n. nights_since t n (nights_in_turn t f (turn_to last l))) is
          ∙ sym (ap (nights_since t 0) nights_more ∙ since_append t 0 (nights_along t f before) (nights_in_turn t f (turn_to last l)));
      few = stays.few;
    }

-- ---- the first legs of a list
split_below : {X : Type 0} (g : ℕ → X) (m r : ℕ) → list_below g (m + r) ≡ list_below g m ++ list_below (λ k. g (m + k)) r
split_below g m zero = ap (list_below g) (plus_0 m) ∙ sym (append-nil (list_below g m))
split_below g m (suc r) =
    ap (list_below g) (one_more m r) ∙ list_below-more g (m + r) ∙ ap (λ xs. xs ++ g (m + r) ∷ []) (split_below g m r)
    ∙ append_assoc (list_below g m) (list_below (λ k. g (m + k)) r) (g (m + r) ∷ [])
    ∙ ap (λ xs. list_below g m ++ xs) (sym (list_below-more (λ k. g (m + k)) r))
    ∙ ap (λ n. list_below g m ++ list_below (λ k. g (m + k)) n) (add-one r)
  where
    one_more : (m r : ℕ) → m + suc r ≡ m + r + 1
    one_more m r = omega arith

module _ (t : Tables) (f : ℕ) (legs : List ℕ) (m : ℕ) (lt : m < length legs) where
  first_turns : turns_along (take (suc m) legs) ≡ list_below (turn_after legs) m
  first_turns =
      ap (list_below (turn_after (take (suc m) legs))) (ap (λ n. n - 1) long ∙ less_one m)
      ∙ turns_agree (take (suc m) legs) legs m (omega (arith, long)) lt (λ j le. get_or-take (suc m) legs j 0 (omega arith))
    where
      long : length (take (suc m) legs) ≡ suc m
      long = length-take-le (suc m) legs (omega arith)

      less_one : (n : ℕ) → suc n - 1 ≡ n
      less_one n = omega arith

  module _ (n : ℕ) (within : m ≤ n) where
    rest_turns : List Connection
    rest_turns = list_below (λ k. turn_after legs (m + k)) (n - m)

    all_nights : nights_in_turns t f (list_below (turn_after legs) n) ≡ nights_in_turns t f (list_below (turn_after legs) m) ++ nights_in_turns t f rest_turns
    unfolding rest_turns
    all_nights =
        ap (λ k. nights_in_turns t f (list_below (turn_after legs) k)) (all m n within)
        ∙ ap (nights_in_turns t f) (split_below (turn_after legs) m (n - m))
        ∙ nights_append t f (list_below (turn_after legs) m) (list_below (λ k. turn_after legs (m + k)) (n - m))
      where
        all : (m n : ℕ) → m ≤ n → n ≡ m + (n - m)
        all m n le = omega arith

    -- their nights are the first of those in so many turns
    pub first_nights : (days : ℕ) → stays_below t days 0 (nights_in_turns t f (list_below (turn_after legs) n)) ≡ true → stays_below t days 0 (nights_along t f (take (suc m) legs)) ≡ true
    first_nights days below =
        ap (λ turns. stays_below t days 0 (nights_in_turns t f turns)) first_turns
        ∙ (parts_true (stays_below t days 0 (nights_in_turns t f (list_below (turn_after legs) m)))
        (stays_below t days (nights_since t 0 (nights_in_turns t f (list_below (turn_after legs) m))) (nights_in_turns t f rest_turns))
        (sym (ap (stays_below t days 0) all_nights ∙ below_append t days 0 (nights_in_turns t f (list_below (turn_after legs) m)) (nights_in_turns t f rest_turns)) ∙ below)).0
