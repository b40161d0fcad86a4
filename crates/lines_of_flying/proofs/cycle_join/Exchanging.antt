-- Two cycles become one where a turn of each takes the other's departure.
use Rattle.std.proofs.Common.{◌≡◌, ◌≢◌, ℕ, ◌<◌, ◌⊎◌, inl, inr, Bool, true, false, ◌==◌, ◌&&◌, List, length, refl, sym, ◌∙◌, ap, subst}
use Rattle.std.proofs.lemmas.Bool.{cases_eq, eq-eqb, eqb-true}
use Rattle.fleet_model.specs.declared.parts.Connection.{Connection}
use Rattle.fleet_model.specs.declared.tables.Tables.{Tables}
use Rattle.fleet_model.specs.Schedule.{legs_in}
use Rattle.lines_of_flying.specs.ground_turns.Maps.{AreExchanged, IsSuccessorMap, turn_at}
use Rattle.lines_of_flying.specs.ground_turns.Parts.{KeepsPart}
use Rattle.lines_of_flying.proofs.ground_turns.Rounds.{bit}
use Rattle.lines_of_flying.proofs.ground_turns.Waits.{over_arrivals, over_departures}
use Rattle.lines_of_flying.specs.cycle_join.Labels.{AreLinked, AreRelabelled, IsOfLabels, label_of}
use Rattle.sums.proofs.Terms.{same_bit, same_term}
use Rattle.lines_of_flying.proofs.cycle_join.Relabelling.{meets_now, of_labels_still, stays}

-- two tests of two legs, where the second comes out the same
same_of : (x y b c : Bool) → b ≡ c → (b ≡ true → x ≡ y) → (x && b) ≡ (y && c)
same_of x y true true e h = ap (λ z. z && true) (h refl)
same_of true true false false e h = refl
same_of true false false false e h = refl
same_of false true false false e h = refl
same_of false false false false e h = refl
same_of x y true false e h = cc
same_of x y false true e h = cc

passing : (x y b c : Bool) → b ≡ true → c ≡ true → (x && b) ≡ (y && c) → x ≡ y
passing true true b c e g same = refl
passing false false b c e g same = refl
passing true false b c e g same = cc
passing false true b c e g same = cc

module _ (t : Tables) (a : List ℕ) (f : ℕ) (old new : List Connection) (i j : ℕ) (labels : List ℕ) (map : IsSuccessorMap t a f old) (all : length labels ≡ legs_in t)
    (linked : AreLinked old labels (length old)) (h : AreExchanged old new i j) (within : i < length old) (within' : j < length old)
    (differ : label_of labels (turn_at old i).arriving ≢ label_of labels (turn_at old j).arriving) where
  arrives : (k : ℕ) → k < length old → (turn_at old k).arriving < length labels
  arrives k lt = subst (λ n. (turn_at old k).arriving < n) (sym all) (map.each k lt).arriving

  departs : (k : ℕ) → k < length old → (turn_at old k).departing < length labels
  departs k lt = subst (λ n. (turn_at old k).departing < n) (sym all) (map.each k lt).departing

  module _ (inside : ℕ → Bool) (keeps : KeepsPart new inside) where
    -- a turn that is neither of the two keeps the part
    other_kept : (k : ℕ) → k < length old → k ≢ i → k ≢ j → inside (turn_at old k).arriving ≡ inside (turn_at old k).departing
    other_kept k lt not_i not_j =
        subst (λ turn. inside turn.arriving ≡ inside turn.departing) (h.others k lt not_i not_j) (keeps.each k (subst (λ n. k < n) (sym h.same_length) lt))

    first_kept : inside (turn_at old i).arriving ≡ inside (turn_at old j).departing
    first_kept = subst (λ turn. inside turn.arriving ≡ inside turn.departing) h.first (keeps.each i (subst (λ n. i < n) (sym h.same_length) within))

    second_kept : inside (turn_at old j).arriving ≡ inside (turn_at old i).departing
    second_kept = subst (λ turn. inside turn.arriving ≡ inside turn.departing) h.second (keeps.each j (subst (λ n. j < n) (sym h.same_length) within'))

    -- the leg is in the part and in the first cycle
    in_first : ℕ → Bool
    in_first l = inside l && (label_of labels l == label_of labels (turn_at old i).arriving)

    -- each other turn of the cycle keeps the part; as often as legs of both arrive they depart, so its last turn does too
    opened : inside (turn_at old i).arriving ≡ inside (turn_at old i).departing
    unfolding in_first
    opened =
        let flow = over_arrivals t a f old map (λ l. bit (in_first l)) ∙ sym (over_departures t a f old map (λ l. bit (in_first l))) in
        let term = same_term (λ k. bit (in_first (turn_at old k).arriving)) (λ k. bit (in_first (turn_at old k).departing)) (length old) i within flow
        (record { each = λ k lt other. ap bit (one_turn k lt other) }) in
        passing (inside (turn_at old i).arriving) (inside (turn_at old i).departing) _ _ (eq-eqb _ _ refl) (eq-eqb _ _ (sym (linked.linked i within)))
        (same_bit (in_first (turn_at old i).arriving) (in_first (turn_at old i).departing) term)
      where
        one_turn : (k : ℕ) → k < length old → k ≢ i → in_first (turn_at old k).arriving ≡ in_first (turn_at old k).departing
        one_turn k lt other =
            same_of (inside (turn_at old k).arriving) (inside (turn_at old k).departing) _ _
            (ap (λ c. c == label_of labels (turn_at old i).arriving) (linked.linked k lt))
            (λ e. other_kept k lt other (λ same. differ (sym (eqb-true _ _ e) ∙ ap (λ q. label_of labels (turn_at old q).arriving) same)))

    kept_before : KeepsPart old inside
    kept_before = record { each = λ k lt. by_turn k lt (cases_eq k i) (cases_eq k j) }
      where
        by_turn : (k : ℕ) → k < length old → (k ≡ i) ⊎ (k ≢ i) → (k ≡ j) ⊎ (k ≢ j) → inside (turn_at old k).arriving ≡ inside (turn_at old k).departing
        by_turn k lt (inl here) other = subst (λ q. inside (turn_at old q).arriving ≡ inside (turn_at old q).departing) (sym here) opened
        by_turn k lt (inr not) (inl here) =
            subst (λ q. inside (turn_at old q).arriving ≡ inside (turn_at old q).departing) (sym here) (second_kept ∙ sym opened ∙ first_kept)
        by_turn k lt (inr not) (inr not') = other_kept k lt not not'

    pub both_cycles : inside (turn_at old i).arriving ≡ inside (turn_at old j).arriving
    both_cycles = opened ∙ sym second_kept

    pub of_labels_before : IsOfLabels labels inside
    of_labels_before = linked.whole inside kept_before

  module _ (labels' : List ℕ) (from to : ℕ) (h' : AreRelabelled labels labels' from to) (first : label_of labels (turn_at old i).arriving ≡ from)
      (second : label_of labels (turn_at old j).arriving ≡ to) where
    linked_now : (k : ℕ) → k < length old → label_of labels' (turn_at new k).arriving ≡ label_of labels' (turn_at new k).departing
    linked_now k lt = by_turn (cases_eq k i) (cases_eq k j)
      where
        first_turn : label_of labels' (turn_at old i).arriving ≡ label_of labels' (turn_at old j).departing
        first_turn =
            meets_now labels labels' from to h' _ _ (arrives i within) (departs j within') first (sym (linked.linked j within') ∙ second)

        second_turn : label_of labels' (turn_at old j).arriving ≡ label_of labels' (turn_at old i).departing
        second_turn =
            sym (meets_now labels labels' from to h' _ _ (departs i within) (arrives j within') (sym (linked.linked i within) ∙ first) second)

        by_turn : (k ≡ i) ⊎ (k ≢ i) → (k ≡ j) ⊎ (k ≢ j) → label_of labels' (turn_at new k).arriving ≡ label_of labels' (turn_at new k).departing
        by_turn (inl here) other = subst (λ q. label_of labels' (turn_at new q).arriving ≡ label_of labels' (turn_at new q).departing) (sym here)
            (subst (λ turn. label_of labels' turn.arriving ≡ label_of labels' turn.departing) (sym h.first) first_turn)
        by_turn (inr not) (inl here) = subst (λ q. label_of labels' (turn_at new q).arriving ≡ label_of labels' (turn_at new q).departing) (sym here)
            (subst (λ turn. label_of labels' turn.arriving ≡ label_of labels' turn.departing) (sym h.second) second_turn)
        by_turn (inr not) (inr not') =
            subst (λ turn. label_of labels' turn.arriving ≡ label_of labels' turn.departing) (sym (h.others k lt not not'))
            (stays labels labels' from to h' _ _ (arrives k lt) (departs k lt) (linked.linked k lt))

    pub joined_linked : AreLinked new labels' (length new)
    joined_linked = record {
      linked = λ k lt. linked_now k (subst (λ n. k < n) h.same_length lt);
      whole = λ inside keeps.
          of_labels_still labels labels' from to h' inside (turn_at old i).arriving (turn_at old j).arriving (arrives i within) (arrives j within') first second
          (both_cycles inside keeps) (of_labels_before inside keeps);
    }
