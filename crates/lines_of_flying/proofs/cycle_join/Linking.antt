-- Labels of a map's cycles, found turn by turn.
use Rattle.std.proofs.Common.{◌≡◌, ℕ, ◌+◌, ◌<◌, inl, inr, List, length, sym, ◌∙◌, ap, subst, arith}
use Rattle.std.proofs.lemmas.Bool.{cases_lt}
use Rattle.sums.specs.Places.{list_below}
use Rattle.sums.proofs.Places.{get_or-list_below, length-list_below}
use Rattle.fleet_model.specs.declared.parts.Connection.{Connection}
use Rattle.fleet_model.specs.declared.tables.Tables.{Tables}
use Rattle.fleet_model.specs.Schedule.{legs_in}
use Rattle.lines_of_flying.specs.ground_turns.Maps.{IsSuccessorMap, turn_at}
use Rattle.lines_of_flying.specs.cycle_join.Labels.{AreLabels, AreLinked, AreRelabelled, label_of}
use Rattle.lines_of_flying.proofs.cycle_join.Relabelling.{meets_now, of_labels_still, stays}

module _ (legs : ℕ) (labels : List ℕ) (own : labels ≡ list_below (λ l. l) legs) where
  long : length labels ≡ legs
  long = ap length own ∙ length-list_below (λ l. l) legs

  own_label : (l : ℕ) → l < legs → label_of labels l ≡ l
  own_label l below = ap (λ xs. label_of xs l) own ∙ get_or-list_below (λ l. l) legs l 0 below

  pub own_are_labels : AreLabels labels legs
  own_are_labels = record { each_leg = long; few = λ l below. subst (λ c. c < legs) (sym (own_label l below)) below }

  pub own_are_linked : (turns : List Connection) → AreLinked turns labels 0
  own_are_linked turns = record {
    linked = λ k lt. absurd (omega arith);
    whole = λ inside keeps. record {
      each = λ l k below below' same.
          ap inside (sym (own_label l (subst (λ n. l < n) long below)) ∙ same ∙ own_label k (subst (λ n. k < n) long below'));
    };
  }

-- the legs of the turns have labels
pub record AreKnown (turns : List Connection) (labels : List ℕ) : Type 0 where
  pub arriving : (k : ℕ) → k < length turns → (turn_at turns k).arriving < length labels
  pub departing : (k : ℕ) → k < length turns → (turn_at turns k).departing < length labels

pub are_known : (t : Tables) (a : List ℕ) (f : ℕ) (turns : List Connection) (labels : List ℕ) → IsSuccessorMap t a f turns → length labels ≡ legs_in t → AreKnown turns labels
are_known t a f turns labels map each = record {
  arriving = λ k lt. subst (λ n. (turn_at turns k).arriving < n) (sym each) (map.each k lt).arriving;
  departing = λ k lt. subst (λ n. (turn_at turns k).departing < n) (sym each) (map.each k lt).departing;
}

pub linked_more : (turns : List Connection) (old new : List ℕ) (n from to : ℕ) → n < length turns → AreKnown turns old → AreLinked turns old n
    → AreRelabelled old new from to → label_of old (turn_at turns n).arriving ≡ from → label_of old (turn_at turns n).departing ≡ to → AreLinked turns new (n + 1)
linked_more turns old new n from to lt known linked h first second = record {
  linked = λ k below. elim (cases_lt k n) [
    | inl before ↦ stays old new from to h _ _ (known.arriving k (omega arith)) (known.departing k (omega arith)) (linked.linked k before)
    | inr last ↦
        let here : n ≡ k = omega arith in
        subst (λ q. label_of new (turn_at turns q).arriving ≡ label_of new (turn_at turns q).departing) here
        (meets_now old new from to h _ _ (known.arriving n lt) (known.departing n lt) first second)
  ];
  whole = λ inside keeps.
      of_labels_still old new from to h inside (turn_at turns n).arriving (turn_at turns n).departing (known.arriving n lt) (known.departing n lt) first second
      (keeps.each n lt) (linked.whole inside keeps);
}
