-- Where no cycles touch and there are two, the first leg's is apart from the others.
use Rattle.std.proofs.Common.{◌≡◌, ◌≢◌, ℕ, zero, suc, ◌+◌, ◌<◌, ◌≤◌, inl, inr, Bool, true, false, ◌==◌, if◌then◌else◌, List, [], ◌∷◌, ◌++◌, length, slice_index, refl, sym, ◌∙◌, ap, subst, arith, length-append, append-nil}
use Rattle.std.proofs.Math.ListN.{get_or-append}
use Rattle.std.proofs.lemmas.Bool.{cases_lt, cases_order, eq-eqb, eqb-true}
use Rattle.std.proofs.lemmas.List.{get_or_push}
use Rattle.sums.proofs.Tests.{never_passes, no_both, same_tests}
use Rattle.fleet_model.specs.declared.parts.Connection.{Connection}
use Rattle.fleet_model.specs.declared.tables.Tables.{Tables}
use Rattle.fleet_model.specs.Counts.{choice_at}
use Rattle.fleet_model.specs.Schedule.{legs_in}
use Rattle.lines_of_flying.specs.ground_turns.Maps.{Holds, IsFitting, IsTour, no_turn, turn_after, turn_at, turns_round}
use Rattle.lines_of_flying.specs.ground_turns.Parts.{KeepsPart, NeverTouches}
use Rattle.lines_of_flying.proofs.ground_turns.ApartMaps.{apart_for_all, tour_is_whole}
use Rattle.lines_of_flying.proofs.ground_turns.Totals.{some_counted}
use Rattle.sums.proofs.Places.{get_or-list_below, length-list_below}
use Rattle.lines_of_flying.specs.cycle_join.Joins.{Flies, IsAlwaysKept, IsApart, IsFirstLeg, is_listed}
use Rattle.lines_of_flying.specs.cycle_join.Labels.{AreLinked, label_of, legs_labelled}
use Rattle.lines_of_flying.proofs.cycle_join.Listed.{listed_at, where_listed}
use Rattle.lines_of_flying.proofs.cycle_join.Paths.{arrives_once}

-- the legs below n that have a label, rising
pub record AreOf (labels : List ℕ) (label : ℕ) (legs : List ℕ) (n : ℕ) : Type 0 where
  pub below : (k : ℕ) → k < length legs → slice_index legs k < n
  pub each : (k : ℕ) → k < length legs → label_of labels (slice_index legs k) ≡ label
  pub rise : (j k : ℕ) → j < k → k < length legs → slice_index legs j < slice_index legs k
  pub all : (l : ℕ) → l < n → label_of labels l ≡ label → (k : ℕ) × (k < length legs) × (slice_index legs k ≡ l)

module _ (labels : List ℕ) (label : ℕ) where
  one_more : (legs : List ℕ) (n : ℕ) → label_of labels n ≡ label → AreOf labels label legs n → AreOf labels label (legs ++ n ∷ []) (suc n)
  one_more legs n has h = record {
    below = λ k lt. elim (cases_lt k (length legs)) [
      | inl before ↦ let less = h.below k before in omega (arith, less, old k before)
      | inr after ↦ omega (arith, new k (end k lt after))
    ];
    each = λ k lt. elim (cases_lt k (length legs)) [
      | inl before ↦ ap (label_of labels) (old k before) ∙ h.each k before
      | inr after ↦ ap (label_of labels) (new k (end k lt after)) ∙ has
    ];
    rise = λ j k order lt. elim (cases_lt k (length legs)) [
      | inl before ↦ let less = h.rise j k order before in omega (arith, less, old j (omega arith), old k before)
      | inr after ↦
          let last : length legs ≡ k = end k lt after in
          let early : j < length legs = omega arith in
          let less = h.below j early in
          omega (arith, less, old j early, new k last)
    ];
    all = λ l less is. elim (cases_lt l n) [
      | inl before ↦
          let found = h.all l before is in
          let within = found.1 in
          (found.0, omega (arith, within, long), old found.0 found.1 ∙ found.2)
      | inr after ↦ (length legs, omega (arith, long), new (length legs) refl ∙ last_is l less after)
    ];
  }
    where
      long : length (legs ++ n ∷ []) ≡ length legs + 1
      long = length-append legs (n ∷ [])

      old : (k : ℕ) → k < length legs → slice_index (legs ++ n ∷ []) k ≡ slice_index legs k
      old k lt = get_or-append legs (n ∷ []) 0 k lt

      new : (k : ℕ) → length legs ≡ k → slice_index (legs ++ n ∷ []) k ≡ n
      new k e = get_or_push legs n 0 k e

      end : (k : ℕ) → k < length (legs ++ n ∷ []) → length legs ≤ k → length legs ≡ k
      end k lt after = omega (arith, lt, long, after)

      last_is : (l : ℕ) → l < suc n → n ≤ l → n ≡ l
      last_is l less after = omega arith

  no_more : (legs : List ℕ) (n : ℕ) → (label_of labels n ≡ label → ⊥) → AreOf labels label legs n → AreOf labels label legs (suc n)
  no_more legs n other h = record {
    below = λ k lt. let less = h.below k lt in omega arith;
    each = h.each;
    rise = h.rise;
    all = λ l less is. elim (cases_lt l n) [
      | inl before ↦ h.all l before is
      | inr after ↦ let same : l ≡ n = omega arith in absurd (other (ap (label_of labels) (sym same) ∙ is))
    ];
  }

  pub are_of : (n : ℕ) → AreOf labels label (legs_labelled labels label n) n
  are_of zero = record { below = λ k lt. absurd (omega arith); each = λ k lt. absurd (omega arith); rise = λ j k order lt. absurd (omega arith); all = λ l less is. absurd (omega arith) }
  are_of (suc n) = by_last (label_of labels n == label) refl (are_of n)
    where
      by_last : (b : Bool) → (label_of labels n == label) ≡ b → AreOf labels label (legs_labelled labels label n) n
          → AreOf labels label (legs_labelled labels label n ++ (if b then n ∷ [] else [])) (suc n)
      by_last true e h = one_more (legs_labelled labels label n) n (eqb-true _ _ e) h
      by_last false e h =
          subst (λ legs. AreOf labels label legs (suc n)) (sym (append-nil (legs_labelled labels label n)))
          (no_more (legs_labelled labels label n) n (λ is. no_both e (eq-eqb _ _ is)) h)

-- a tour has each of the fleet's legs
in_tour : (t : Tables) (a : List ℕ) (f : ℕ) (tour : List ℕ) → IsTour t a f tour → (l : ℕ) → Flies t a f l → (k : ℕ) × (k < length tour) × (slice_index tour k ≡ l)
in_tour t a f tour is l flies =
    let found = arrives_in_map in
    let within = subst (λ n. found.0 < n) (length-list_below (turn_after tour) (length tour)) found.1 in
    (found.0, within, ap (λ turn. turn.arriving) (sym (get_or-list_below (turn_after tour) (length tour) found.0 no_turn within)) ∙ found.2)
  where
    arrives_in_map : (k : ℕ) × (k < length (turns_round tour)) × ((turn_at (turns_round tour) k).arriving ≡ l)
    arrives_in_map =
        let some = some_counted (λ k. (turn_at (turns_round tour) k).arriving == l) (length (turns_round tour)) (omega (arith, arrives_once t a f (turns_round tour) is.fitting.map l flies)) in
        (some.0, some.1, eqb-true _ _ some.2)

module _ (t : Tables) (a : List ℕ) (f : ℕ) (pairs turns : List Connection) (labels : List ℕ) (first : ℕ) (fitting : IsFitting t a f turns) (holds : Holds turns pairs)
    (each : length labels ≡ legs_in t) (linked : AreLinked turns labels (length turns)) (least : IsFirstLeg t a f first)
    (apart : (inside : ℕ → Bool) → ((j k : ℕ) → j < length turns → k < length turns → label_of labels (turn_at turns j).arriving ≡ label_of labels (turn_at turns k).arriving
    → inside (turn_at turns j).arriving ≡ inside (turn_at turns k).arriving) → NeverTouches t f pairs turns inside) where
  legs : List ℕ
  legs = legs_labelled labels (label_of labels first) (legs_in t)

  are : AreOf labels (label_of labels first) legs (legs_in t)
  unfolding legs
  are = are_of labels (label_of labels first) (legs_in t)

  -- legs of one label are in the list together
  listed_label : (l k : ℕ) → l < legs_in t → k < legs_in t → label_of labels l ≡ label_of labels k → is_listed legs l ≡ true → is_listed legs k ≡ true
  listed_label l k below below' same e =
      let found = where_listed legs l e in
      let here : label_of labels k ≡ label_of labels first = sym same ∙ ap (label_of labels) (sym found.2) ∙ are.each found.0 found.1 in
      let place = are.all k below' here in
      subst (λ q. is_listed legs q ≡ true) place.2 (listed_at legs place.0 place.1)

  by_label : (l k : ℕ) → l < legs_in t → k < legs_in t → label_of labels l ≡ label_of labels k → is_listed legs l ≡ is_listed legs k
  by_label l k below below' same = same_tests _ _ (listed_label l k below below' same) (listed_label k l below' below (sym same))

  keeps : KeepsPart turns (is_listed legs)
  keeps = record { each = λ k lt. by_label _ _ (fitting.map.each k lt).arriving (fitting.map.each k lt).departing (linked.linked k lt) }

  always : IsAlwaysKept t a f pairs (is_listed legs)
  always = record {
    each = λ other fits holds'.
        apart_for_all t a f pairs turns other (is_listed legs) fitting holds keeps
        (apart (is_listed legs) (λ j k lt lt' same. by_label _ _ (fitting.map.each j lt).arriving (fitting.map.each k lt').arriving same)) fits holds';
  }

  -- a part that the map keeps has all legs of the list or none
  together : (inside : ℕ → Bool) → KeepsPart turns inside → (k : ℕ) → k < length legs → inside (slice_index legs k) ≡ inside first
  together inside kept k lt =
      (linked.whole inside kept).each (slice_index legs k) first (subst (λ n. slice_index legs k < n) (sym each) (are.below k lt))
      (subst (λ n. first < n) (sym each) least.flies.known) (are.each k lt)

  place_of_first : (k : ℕ) × (k < length legs) × (slice_index legs k ≡ first)
  place_of_first = are.all first least.flies.known refl

  flies : (k : ℕ) → k < length legs → Flies t a f (slice_index legs k)
  flies k lt = record {
    known = are.below k lt;
    flown = eqb-true _ _ (together (λ l. choice_at a l == f) on_fleet k lt ∙ eq-eqb _ _ least.flies.flown);
  }
    where
      on_fleet : KeepsPart turns (λ l. choice_at a l == f)
      on_fleet = record { each = λ k lt. eq-eqb _ _ (fitting.map.each k lt).comes_on ∙ sym (eq-eqb _ _ (fitting.map.each k lt).leaves_on) }

  some : 0 < length legs
  some = let found = place_of_first in omega (arith, found.1)

  -- the first leg of the fleet is the first of the list
  first_at : slice_index legs 0 ≡ first
  first_at = elim (cases_order (slice_index legs 0) first) [
    | inl same ↦ same
    | inr other ↦ elim other [
      | inl less ↦ absurd (least.least (slice_index legs 0) less (flies 0 some).flown)
      | inr more ↦ absurd (no_later place_of_first.0 place_of_first.1 place_of_first.2 more)
    ]
  ]
    where
      no_later : (k : ℕ) → k < length legs → slice_index legs k ≡ first → first < slice_index legs 0 → ⊥
      no_later zero lt e more = absurd (omega (arith, e, more))
      no_later (suc k) lt e more = let less = are.rise 0 (suc k) (omega arith) lt in absurd (omega (arith, e, more, less))

  module _ (other : ℕ) (known : other < legs_in t) (flown : choice_at a other ≡ f) (differs : label_of labels other ≢ label_of labels first) where
    outside : is_listed legs other ≡ false
    outside = never_passes _ (λ e.
        let found = where_listed legs other e in
        differs (ap (label_of labels) (sym found.2) ∙ are.each found.0 found.1))

    no_tour : (tour : List ℕ) → IsTour t a f tour → Holds (turns_round tour) pairs → ⊥
    no_tour tour is holds' =
        let j = in_tour t a f tour is other (record { known = known; flown = flown }) in
        let k = in_tour t a f tour is first least.flies in
        let same = tour_is_whole t a f tour (is_listed legs) is (always.each (turns_round tour) is.fitting holds') j.0 k.0 j.1 k.1 in
        let there : is_listed legs first ≡ true = ap (is_listed legs) (sym first_at) ∙ listed_at legs 0 some in
        no_both outside (ap (is_listed legs) (sym j.2) ∙ same ∙ ap (is_listed legs) k.2 ∙ there)

    pub is_apart : IsApart t a f pairs (legs_labelled labels (label_of labels first) (legs_in t))
    unfolding legs
    is_apart = record {
      rise = are.rise;
      some = some;
      begins = subst (IsFirstLeg t a f) (sym first_at) least;
      flies = flies;
      other = record { leg = other; flies = record { known = known; flown = flown }; outside = outside };
      kept = always;
      least = λ inside kept has k lt. together inside (kept.each turns fitting holds) k lt ∙ ap inside (sym first_at) ∙ has;
      no_tour = no_tour;
    }
