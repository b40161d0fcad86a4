-- A round of a map whose legs all have one label is a tour.
use Rattle.std.proofs.Common.{◌≡◌, ℕ, zero, suc, ◌-◌, ◌%◌, ◌<◌, inl, inr, Bool, true, ◌==◌, List, length, slice_index, refl, sym, ◌∙◌, ap, subst, arith, ap₂}
use Rattle.std.proofs.Math.Nat.{mod-eq_of_lt}
use Rattle.std.proofs.lemmas.Bool.{cases_lt, cases_order, eq-eqb, eqb-true}
use Rattle.sums.proofs.Places.{get_or-list_below, length-list_below}
use Rattle.sums.proofs.Tests.{same_tests}
use Rattle.fleet_model.specs.declared.parts.Connection.{Connection}
use Rattle.fleet_model.specs.declared.tables.Tables.{Tables}
use Rattle.fleet_model.specs.Counts.{choice_at}
use Rattle.fleet_model.specs.Schedule.{legs_in}
use Rattle.lines_of_flying.specs.ground_turns.Maps.{HasTurn, Holds, IsFitting, IsSuccessorMap, no_turn, turn_after, turn_at, turns_round}
use Rattle.lines_of_flying.specs.ground_turns.Parts.{KeepsPart}
use Rattle.lines_of_flying.specs.ground_turns.Turns.{IsClean, IsTurn}
use Rattle.lines_of_flying.proofs.ground_turns.Fits.{fits_where_clean}
use Rattle.lines_of_flying.specs.cycle_join.Joins.{Flies, IsFirstLeg, IsJoined, is_listed}
use Rattle.lines_of_flying.specs.cycle_join.Labels.{IsOfLabels, label_of}
use Rattle.lines_of_flying.specs.cycle_join.Rounds.{IsRound, turn_between}
use Rattle.sums.proofs.Rounds.{all_round}
use Rattle.sums.proofs.Terms.{counted_once}
use Rattle.lines_of_flying.proofs.cycle_join.Listed.{listed_at, where_listed}
use Rattle.lines_of_flying.proofs.cycle_join.Paths.{its_turn, path_flies, same_after, same_before}

module _ (t : Tables) (a : List ℕ) (f : ℕ) (turns : List Connection) (map : IsSuccessorMap t a f turns) (first : ℕ) (flies : Flies t a f first) (legs : List ℕ)
    (round : IsRound turns first legs) where
  -- the leg that follows the one at a place of the list
  next_at : ℕ → ℕ
  next_at k = slice_index legs (suc k % length legs)

  next_is : (k : ℕ) → suc k < length legs → next_at k ≡ slice_index legs (suc k)
  unfolding next_at
  next_is k lt = ap (slice_index legs) (mod-eq_of_lt lt)

  last_is : (k : ℕ) → suc k ≡ length legs → next_at k ≡ first
  unfolding next_at
  last_is k e = ap (λ n. slice_index legs (n % length legs)) e ∙ ap (slice_index legs) (all_round (length legs) round.path.some) ∙ round.path.begins

  follows : (k : ℕ) → k < length legs → HasTurn turns (turn_between (slice_index legs k) (next_at k))
  follows k lt = elim (cases_lt (suc k) (length legs)) [
    | inl more ↦ subst (λ q. HasTurn turns (turn_between (slice_index legs k) q)) (sym (next_is k more)) (round.path.steps k more)
    | inr none ↦
        let last : suc k ≡ length legs = omega arith in
        let place : length legs - 1 ≡ k = omega arith in
        subst (λ q. HasTurn turns (turn_between (slice_index legs k) q)) (sym (last_is k last))
        (subst (λ n. HasTurn turns (turn_between (slice_index legs n) first)) place round.closes)
  ]

  -- the place before that of a leg of the list, going round
  place_before : (k : ℕ) → k < length legs → (j : ℕ) × (j < length legs) × (next_at j ≡ slice_index legs k)
  place_before zero lt = (length legs - 1, omega arith, last_is (length legs - 1) (omega arith) ∙ sym round.path.begins)
  place_before (suc k) lt = (k, omega arith, next_is k lt)

  -- the map keeps the legs of the round among themselves
  kept : KeepsPart turns (is_listed legs)
  kept = record { each = λ k lt. same_tests _ _ (forth k lt) (back k lt) }
    where
      itself : (k : ℕ) → k < length turns → HasTurn turns (turn_between (turn_at turns k).arriving (turn_at turns k).departing)
      itself k lt = record { place = k; within = lt; there = refl }

      listed : (l k : ℕ) → k < length legs → slice_index legs k ≡ l → is_listed legs l ≡ true
      listed l k lt e = subst (λ q. is_listed legs q ≡ true) e (listed_at legs k lt)

      forth : (k : ℕ) → k < length turns → is_listed legs (turn_at turns k).arriving ≡ true → is_listed legs (turn_at turns k).departing ≡ true
      forth k lt e =
          let found = where_listed legs _ e in
          let turn = subst (λ l. HasTurn turns (turn_between l (next_at found.0))) found.2 (follows found.0 found.1) in
          let same = same_after t a f turns map (turn_at turns k).arriving (next_at found.0) (turn_at turns k).departing turn (itself k lt) in
          elim (cases_lt (suc found.0) (length legs)) [
            | inl more ↦ listed _ (suc found.0) more (sym (next_is found.0 more) ∙ same)
            | inr none ↦ listed _ 0 round.path.some (round.path.begins ∙ sym (last_is found.0 (omega (arith, found.1, none))) ∙ same)
          ]

      back : (k : ℕ) → k < length turns → is_listed legs (turn_at turns k).departing ≡ true → is_listed legs (turn_at turns k).arriving ≡ true
      back k lt e =
          let found = where_listed legs _ e in
          let before = place_before found.0 found.1 in
          let turn = subst (λ q. HasTurn turns (turn_between (slice_index legs before.0) q)) (before.2 ∙ found.2) (follows before.0 before.1) in
          listed _ before.0 before.1 (same_before t a f turns map (slice_index legs before.0) (turn_at turns k).arriving (turn_at turns k).departing turn (itself k lt))

  -- one place has a leg
  same_place : (j k : ℕ) → j < length legs → k < length legs → slice_index legs j ≡ slice_index legs k → j ≡ k
  same_place j k lt lt' e = elim (cases_order j k) [
    | inl same ↦ same
    | inr other ↦ elim other [ inl before ↦ absurd (round.path.once j k before lt' e) | inr after ↦ absurd (round.path.once k j after lt (sym e)) ]
  ]

  same_next : (j k : ℕ) → j < length legs → k < length legs → next_at j ≡ next_at k → j ≡ k
  same_next j k lt lt' e =
      same_place j k lt lt'
      (same_before t a f turns map (slice_index legs j) (slice_index legs k) (next_at k) (subst (λ q. HasTurn turns (turn_between (slice_index legs j) q)) e (follows j lt)) (follows k lt'))

  module _ (all : (l : ℕ) → Flies t a f l → is_listed legs l ≡ true) where
    tour_turn : (k : ℕ) → k < length legs → turn_at (turns_round legs) k ≡ turn_between (slice_index legs k) (next_at k)
    unfolding next_at
    tour_turn k lt = get_or-list_below (turn_after legs) (length legs) k no_turn lt

    tour_long : length (turns_round legs) ≡ length legs
    tour_long = length-list_below (turn_after legs) (length legs)

    -- each turn of the tour is one of the map
    by_map : (P : Connection → Type 0) → ((turn : Connection) → HasTurn turns turn → P turn) → (k : ℕ) → k < length (turns_round legs) → P (turn_at (turns_round legs) k)
    by_map P each k lt =
        let within = subst (λ n. k < n) tour_long lt in
        subst P (sym (tour_turn k within)) (each _ (follows k within))

    flies_at : (k : ℕ) → k < length legs → Flies t a f (slice_index legs k)
    flies_at = path_flies t a f turns map first legs round.path flies

    place_of : (l : ℕ) → Flies t a f l → (k : ℕ) × (k < length legs) × (slice_index legs k ≡ l)
    place_of l is = where_listed legs l (all l is)

    tour_map : IsSuccessorMap t a f (turns_round legs)
    tour_map = record {
      plain = map.plain;
      each = by_map (IsTurn t a f) (its_turn t a f turns map);
      arrives = λ l below.
          counted_once (λ k. (turn_at (turns_round legs) k).arriving == l) (length (turns_round legs)) (choice_at a l == f)
          (λ j k lt lt' e g.
          let within = subst (λ n. j < n) tour_long lt in
          let within' = subst (λ n. k < n) tour_long lt' in
          same_place j k within within' (sym (arriving j within) ∙ eqb-true _ _ e ∙ sym (eqb-true _ _ g) ∙ arriving k within'))
          (λ flown.
          let found = place_of l (record { known = below; flown = eqb-true _ _ flown }) in
          (found.0, subst (λ n. found.0 < n) (sym tour_long) found.1, eq-eqb _ _ (arriving found.0 found.1 ∙ found.2)))
          (λ k lt e.
          let within = subst (λ n. k < n) tour_long lt in
          subst (λ q. (choice_at a q == f) ≡ true) (sym (arriving k within) ∙ eqb-true _ _ e) (eq-eqb _ _ (flies_at k within).flown));
      departs = λ l below.
          counted_once (λ k. (turn_at (turns_round legs) k).departing == l) (length (turns_round legs)) (choice_at a l == f)
          (λ j k lt lt' e g.
          let within = subst (λ n. j < n) tour_long lt in
          let within' = subst (λ n. k < n) tour_long lt' in
          same_next j k within within' (sym (departing j within) ∙ eqb-true _ _ e ∙ sym (eqb-true _ _ g) ∙ departing k within'))
          (λ flown.
          let found = place_of l (record { known = below; flown = eqb-true _ _ flown }) in
          let before = place_before found.0 found.1 in
          (before.0, subst (λ n. before.0 < n) (sym tour_long) before.1, eq-eqb _ _ (departing before.0 before.1 ∙ before.2 ∙ found.2)))
          (λ k lt e.
          let within = subst (λ n. k < n) tour_long lt in
          subst (λ q. (choice_at a q == f) ≡ true) (sym (departing k within) ∙ eqb-true _ _ e) (eq-eqb _ _ (its_turn t a f turns map _ (follows k within)).leaves_on));
    }
      where
        arriving : (k : ℕ) → k < length legs → (turn_at (turns_round legs) k).arriving ≡ slice_index legs k
        arriving k lt = ap (λ turn. turn.arriving) (tour_turn k lt)

        departing : (k : ℕ) → k < length legs → (turn_at (turns_round legs) k).departing ≡ next_at k
        departing k lt = ap (λ turn. turn.departing) (tour_turn k lt)

    -- its turns are clean, as the map's are
    tour_fits : IsFitting t a f turns → IsFitting t a f (turns_round legs)
    tour_fits fitting =
        let clean = (fits_where_clean t a f turns map).0 fitting in
        (fits_where_clean t a f (turns_round legs) tour_map).1
        (record { each = by_map (IsClean t a f) (λ turn has. subst (IsClean t a f) has.there (clean.each has.place has.within)) })

    tour_holds : (pairs : List Connection) → Holds turns pairs → Holds (turns_round legs) pairs
    tour_holds pairs holds = record {
      each = λ k lt.
          let has = holds.each k lt in
          let turn = its_turn t a f turns map (turn_at pairs k) has in
          let found = place_of (turn_at pairs k).arriving (record { known = turn.arriving; flown = turn.comes_on }) in
          let here = subst (λ l. HasTurn turns (turn_between l (next_at found.0))) found.2 (follows found.0 found.1) in
          let same = same_after t a f turns map (turn_at pairs k).arriving (next_at found.0) (turn_at pairs k).departing here has in
          record {
            place = found.0;
            within = subst (λ n. found.0 < n) (sym tour_long) found.1;
            there = tour_turn found.0 found.1 ∙ ap₂ turn_between found.2 same;
          };
    }

  -- where all the fleet's legs have the label of the first, all are in the round
  pub is_joined : (pairs : List Connection) (labels : List ℕ) → IsFitting t a f turns → Holds turns pairs → length labels ≡ legs_in t
      → ((inside : ℕ → Bool) → KeepsPart turns inside → IsOfLabels labels inside)
      → IsFirstLeg t a f first → ((l : ℕ) → l < legs_in t → choice_at a l ≡ f → label_of labels l ≡ label_of labels first) → IsJoined t a f pairs legs
  is_joined pairs labels fitting holds each whole least one = record {
    tour = record { some = round.path.some; fitting = tour_fits all fitting };
    holds = tour_holds all pairs holds;
    begins = subst (IsFirstLeg t a f) (sym round.path.begins) least;
  }
    where
      all : (l : ℕ) → Flies t a f l → is_listed legs l ≡ true
      all l is =
          (whole (is_listed legs) kept).each l first (subst (λ n. l < n) (sym each) is.known) (subst (λ n. first < n) (sym each) flies.known) (one l is.known is.flown)
          ∙ ap (is_listed legs) (sym round.path.begins) ∙ listed_at legs 0 round.path.some
