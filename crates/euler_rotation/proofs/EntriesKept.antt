-- What the preorder lists are prefixes.
use Rattle.std.proofs.Common.{◌≡◌, ℕ, zero, suc, ◌<◌, Bool, true, false, ◌&&◌, ◌==◌, not, if◌then◌else◌, All, IsTrue, List, [], ◌∷◌, ◌++◌, length, slice_index, refl, sym, ◌∙◌, ap, subst, subst₂, arith, inl, inr, length-append, add-one}
use Rattle.std.specs.List.{filter, flat_map, list_all}
use Rattle.std.proofs.Math.Seq.{get_or-append_seam}
use Rattle.std.proofs.lemmas.Bool.{cases_lt, eq-eqb, eqb-true, or_left, or_parts, or_right}
use Rattle.std.proofs.lemmas.List.{get_or_append_left}
use Rattle.std.proofs.lemmas.List.Elements.{All-append, All-cons}
use Rattle.sums.proofs.Tests.{by_test, no_both, not_true, parts_true}
use Rattle.fleet_model.specs.declared.parts.Connection.{Connection}
use Rattle.fleet_model.specs.declared.tables.Tables.{Tables}
use Rattle.lines_of_flying.specs.ground_turns.Maps.{turn_at}
use Rattle.euler_rotation.specs.Prefixes.{has_leg, is_clean, is_open, keeps_pair, may_follow, may_turn, meets, nights_along, preorder, preorder_from, turn_to}
use Rattle.euler_rotation.specs.PrefixLaws.{AgreesWith, EntriesArePrefixes, IsPrefix, IsTurnBeside}
use Rattle.euler_rotation.specs.Often.{stays_below}
use Rattle.euler_rotation.proofs.Gaps.{below_often}
use Rattle.euler_rotation.proofs.TourTurns.{clean_to}

-- ---- lists

-- all that comes of the numbers that pass
pub all_flat : (P : List ℕ → Type 0) (g : ℕ → List (List ℕ)) (test : ℕ → Bool) (xs : List ℕ) → ((l : ℕ) → has_leg xs l ≡ true → test l ≡ true → All P (g l))
    → All P (flat_map g (filter test xs))
all_flat P g test [] each = λ k d lt. absurd (omega arith)
all_flat P g test (x ∷ xs) each =
    let rest = all_flat P g test xs (λ l own passes. each l (or_right (x == l) (has_leg xs l) own) passes) in
    by_test (test x)
    (λ e. subst (λ (ls : List (List ℕ)). All P ls) (sym (ap (λ b. flat_map g (if b then x ∷ filter test xs else filter test xs)) e))
    (All-append P (g x) (flat_map g (filter test xs)) (each x (or_left (x == x) (has_leg xs x) (eq-eqb x x refl)) e) rest))
    (λ e. subst (λ (ls : List (List ℕ)). All P ls) (sym (ap (λ b. flat_map g (if b then x ∷ filter test xs else filter test xs)) e)) rest)

-- a leg that a list hasn't stands nowhere in it
nowhere : (xs : List ℕ) (l : ℕ) → has_leg xs l ≡ false → (j : ℕ) → j < length xs → slice_index xs j ≡ l → ⊥
nowhere [] l none j lt same = absurd (omega arith)
nowhere (x ∷ xs) l none zero lt same = no_both (or_parts (x == l) (has_leg xs l) none).0 (eq-eqb x l same)
nowhere (x ∷ xs) l none (suc j) lt same = nowhere xs l (or_parts (x == l) (has_leg xs l) none).1 j (omega arith) same

each_passes : (p : Connection → Bool) (xs : List Connection) → list_all p xs ≡ true → (k : ℕ) → k < length xs → p (turn_at xs k) ≡ true
each_passes p [] all k lt = absurd (omega arith)
each_passes p (x ∷ xs) all zero lt = (parts_true (p x) (list_all p xs) all).0
each_passes p (x ∷ xs) all (suc k) lt = each_passes p xs (parts_true (p x) (list_all p xs) all).1 k (omega arith)

agrees_with : (turn pair : Connection) → keeps_pair turn pair ≡ true → AgreesWith turn pair
agrees_with turn pair keeps = by_test (pair.arriving == turn.arriving)
    (λ e. let there : (pair.departing == turn.departing) ≡ true = sym (ap (λ b. if b then pair.departing == turn.departing else not (pair.departing == turn.departing)) e) ∙ keeps in
    (λ same. eqb-true _ _ there, λ same. eqb-true _ _ e))
    (λ e. let other : not (pair.departing == turn.departing) ≡ true = sym (ap (λ b. if b then pair.departing == turn.departing else not (pair.departing == turn.departing)) e) ∙ keeps in
    (λ same. absurd (no_both e (eq-eqb _ _ same)), λ same. absurd (no_both (not_true _ other) (eq-eqb _ _ same))))

-- ---- prefixes

module _ (t : Tables) (a : List ℕ) (f : ℕ) (pairs : List Connection) (days : ℕ) (order : List ℕ) (some_days : 0 < days) where
  turns_beside : (l m : ℕ) → may_turn t a f pairs l m ≡ true → IsTurnBeside t a f pairs (turn_to l m)
  turns_beside l m passes =
      let parts = parts_true (meets t (turn_to l m) && is_clean t a f (turn_to l m)) (list_all (keeps_pair (turn_to l m)) pairs) passes in
      let both = parts_true (meets t (turn_to l m)) (is_clean t a f (turn_to l m)) parts.0 in
      record {
        meets = eqb-true _ _ both.0;
        clean = clean_to t a f (turn_to l m) both.1;
        agrees = λ k lt. agrees_with (turn_to l m) (turn_at pairs k) (each_passes (keeps_pair (turn_to l m)) pairs parts.1 k lt);
      }

  begun : (l : ℕ) → l ≡ slice_index order 0 → has_leg order l ≡ true → IsPrefix t a f pairs days order (l ∷ [])
  begun l first own = record {
    some = omega arith;
    begins = first;
    own = at_first;
    once = λ j k less lt. absurd (omega arith);
    turn = λ k lt. absurd (omega arith);
    maintained = record { each = λ first lt. absurd (omega (arith, some_days, lt)) };
  }
    where
      at_first : (k : ℕ) → k < 1 → IsTrue (has_leg order (slice_index (l ∷ []) k))
      at_first zero lt = own
      at_first (suc k) lt = absurd (omega arith)

  module _ (front : List ℕ) (last l : ℕ) (is : IsPrefix t a f pairs days order (front ++ last ∷ [])) (own : has_leg order l ≡ true)
      (follows : may_follow t a f pairs days front last l ≡ true) where
    legs : List ℕ
    legs = front ++ last ∷ []

    more : List ℕ
    more = legs ++ l ∷ []

    size : length legs ≡ suc (length front)
    unfolding legs
    size = length-append front (last ∷ []) ∙ add-one (length front)

    size_more : length more ≡ suc (length legs)
    unfolding more
    size_more = length-append legs (l ∷ []) ∙ add-one (length legs)

    old : (k : ℕ) → k < length legs → slice_index more k ≡ slice_index legs k
    unfolding more
    old k lt = get_or_append_left legs (l ∷ []) 0 k lt

    new : (k : ℕ) → k ≡ length legs → slice_index more k ≡ l
    unfolding more
    new k same = ap (slice_index (legs ++ l ∷ [])) same ∙ get_or-append_seam legs l [] 0

    last_is : slice_index legs (length front) ≡ last
    unfolding legs
    last_is = get_or-append_seam front last [] 0

    parts : (may_turn t a f pairs last l ≡ true) × (is_open t f days legs l ≡ true)
    unfolding legs
    parts = parts_true (may_turn t a f pairs last l) (is_open t f days (front ++ last ∷ []) l) follows

    opens : (not (has_leg legs l) ≡ true) × (stays_below t days 0 (nights_along t f more) ≡ true)
    unfolding more
    opens = parts_true (not (has_leg legs l)) (stays_below t days 0 (nights_along t f (legs ++ l ∷ []))) parts.1

    own_each : (k : ℕ) → k < length more → IsTrue (has_leg order (slice_index more k))
    unfolding legs
    own_each k lt = elim (cases_lt k (length legs)) [
      | inl less ↦ subst (λ leg. has_leg order leg ≡ true) (sym (old k less)) (is.own k less)
      | inr at ↦ subst (λ leg. has_leg order leg ≡ true) (sym (new k (omega (arith, at, lt, size_more)))) own
    ]

    once_each : (j k : ℕ) → j < k → k < length more → slice_index more j ≡ slice_index more k → ⊥
    unfolding legs
    once_each j k less lt same = elim (cases_lt k (length legs)) [
      | inl inside ↦ is.once j k less inside (sym (old j (omega (arith, less, inside))) ∙ same ∙ old k inside)
      | inr at ↦ nowhere legs l (not_true (has_leg legs l) opens.0) j (omega (arith, less, at, lt, size_more))
          (sym (old j (omega (arith, less, at, lt, size_more))) ∙ same ∙ new k (omega (arith, at, lt, size_more)))
    ]

    turn_each : (k : ℕ) → suc k < length more → IsTurnBeside t a f pairs (turn_to (slice_index more k) (slice_index more (suc k)))
    unfolding legs
    turn_each k lt = elim (cases_lt (suc k) (length legs)) [
      | inl inside ↦ subst₂ (λ x y. IsTurnBeside t a f pairs (turn_to x y)) (sym (old k (omega (arith, inside)))) (sym (old (suc k) inside)) (is.turn k inside)
      | inr at ↦
          let here : k ≡ length front = omega (arith, at, lt, size_more, size) in
          subst₂ (λ x y. IsTurnBeside t a f pairs (turn_to x y)) (sym (old k (omega (arith, here, size)) ∙ ap (slice_index legs) here ∙ last_is))
          (sym (new (suc k) (omega (arith, at, lt, size_more)))) (turns_beside last l parts.0)
    ]

    extended : IsPrefix t a f pairs days order ((front ++ last ∷ []) ++ l ∷ [])
    unfolding legs more
    extended = record {
      some = omega (arith, size_more);
      begins = old 0 is.some ∙ is.begins;
      own = own_each;
      once = once_each;
      turn = turn_each;
      maintained = below_often t days (nights_along t f more) some_days opens.1;
    }

  each_from : (n : ℕ) (front : List ℕ) (last : ℕ) → IsPrefix t a f pairs days order (front ++ last ∷ []) → All (IsPrefix t a f pairs days order) (preorder_from t a f pairs days order n front last)
  each_from zero front last is = λ k d lt. absurd (omega arith)
  each_from (suc n) front last is =
      All-cons (IsPrefix t a f pairs days order) (front ++ last ∷ []) (flat_map (preorder_from t a f pairs days order n (front ++ last ∷ [])) (filter (may_follow t a f pairs days front last) order)) is
      (all_flat (IsPrefix t a f pairs days order) (preorder_from t a f pairs days order n (front ++ last ∷ [])) (may_follow t a f pairs days front last) order
      (λ l own passes. each_from n (front ++ last ∷ []) l (extended front last l is own passes)))

pub entries_are_prefixes : EntriesArePrefixes
unfolding preorder
entries_are_prefixes t a f pairs days [] k some lt = absurd (omega arith)
entries_are_prefixes t a f pairs days (l ∷ order) k some lt =
    each_from t a f pairs days (l ∷ order) some (length (l ∷ order)) [] l (begun t a f pairs days (l ∷ order) some l refl (or_left (l == l) (has_leg order l) (eq-eqb l l refl))) k [] lt
