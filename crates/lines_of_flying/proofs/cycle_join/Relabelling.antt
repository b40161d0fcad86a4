-- What stays where one label becomes another.
use Rattle.std.proofs.Common.{◌≡◌, ◌≢◌, ℕ, ◌<◌, ◌≤◌, ◌⊎◌, inl, inr, Bool, List, length, sym, ◌∙◌, ap, subst, arith}
use Rattle.std.proofs.lemmas.Bool.{cases_eq}
use Rattle.std.proofs.lemmas.Bool.Decides.{nat_tests}
use Rattle.sums.specs.Below.{sum_below}
use Rattle.lines_of_flying.specs.cycle_join.Labels.{AreLabels, AreRelabelled, IsOfLabels, label_of, relabelled, total_of}
use Rattle.sums.proofs.Terms.{less_sum}

pub is_to : (from to c : ℕ) → c ≡ from → relabelled from to c ≡ to
is_to from to c e = grind (arith, nat_tests)

pub is_kept : (from to c : ℕ) → c ≢ from → relabelled from to c ≡ c
is_kept from to c e = grind (arith, nat_tests)

pub to_is : (from to : ℕ) → relabelled from to to ≡ to
to_is from to = grind (arith, nat_tests)

no_more : (from to c : ℕ) → to ≤ from → relabelled from to c ≤ c
no_more from to c order = grind (arith, nat_tests)

few_still : (from to c n : ℕ) → to < n → c < n → relabelled from to c < n
few_still from to c n low below = grind (arith, nat_tests)

module _ (old new : List ℕ) (from to : ℕ) (h : AreRelabelled old new from to) where
  -- legs of one label keep one
  pub stays : (l k : ℕ) → l < length old → k < length old → label_of old l ≡ label_of old k → label_of new l ≡ label_of new k
  stays l k below below' same = h.each l below ∙ ap (relabelled from to) same ∙ sym (h.each k below')

  pub meets_now : (l k : ℕ) → l < length old → k < length old → label_of old l ≡ from → label_of old k ≡ to → label_of new l ≡ label_of new k
  meets_now l k below below' first second =
      h.each l below ∙ is_to from to _ first ∙ sym (to_is from to) ∙ ap (relabelled from to) (sym second) ∙ sym (h.each k below')

  pub labels_still : (legs : ℕ) → AreLabels old legs → to < legs → AreLabels new legs
  labels_still legs labels low = record {
    each_leg = h.same_length ∙ labels.each_leg;
    few = λ l below. subst (λ c. c < legs) (sym (h.each l (subst (λ n. l < n) (sym labels.each_leg) below))) (few_still from to _ legs low (labels.few l below));
  }

  -- a part that had all legs of both labels or none has those of the new one
  pub of_labels_still : (inside : ℕ → Bool) (p q : ℕ) → p < length old → q < length old → label_of old p ≡ from → label_of old q ≡ to → inside p ≡ inside q
      → IsOfLabels old inside → IsOfLabels new inside
  of_labels_still inside p q within within' first second same labels = record {
    each = λ l k below below' e. by_label l k (subst (λ n. l < n) h.same_length below) (subst (λ n. k < n) h.same_length below') e (cases_eq (label_of new l) to);
  }
    where
      -- those that have the new label were with it or with the other
      moved : (l : ℕ) → l < length old → label_of new l ≡ to → inside l ≡ inside q
      moved l below now = elim (cases_eq (label_of old l) from) [
        | inl was ↦ labels.each l p below within (was ∙ sym first) ∙ same
        | inr not ↦ labels.each l q below within' (sym (is_kept from to _ not) ∙ sym (h.each l below) ∙ now ∙ sym second)
      ]

      was_same : (l : ℕ) → l < length old → label_of new l ≢ to → label_of new l ≡ label_of old l
      was_same l below other = elim (cases_eq (label_of old l) from) [
        | inl was ↦ absurd (other (h.each l below ∙ is_to from to _ was))
        | inr not ↦ h.each l below ∙ is_kept from to _ not
      ]

      by_label : (l k : ℕ) → l < length old → k < length old → label_of new l ≡ label_of new k → (label_of new l ≡ to) ⊎ (label_of new l ≢ to) → inside l ≡ inside k
      by_label l k below below' e (inl now) = moved l below now ∙ sym (moved k below' (sym e ∙ now))
      by_label l k below below' e (inr other) =
          labels.each l k below below' (sym (was_same l below other) ∙ e ∙ was_same k below' (λ now. other (e ∙ now)))

  -- lower labels have a lower sum
  pub lower_total : (p : ℕ) → p < length old → label_of old p ≡ from → to < from → total_of new < total_of old
  lower_total p within first less =
      let sum = less_sum (label_of new) (label_of old) (length old) p within
      (λ k below. subst (λ c. c ≤ label_of old k) (sym (h.each k below)) (no_more from to _ (omega arith)))
      (let here : label_of new p ≡ to = h.each p within ∙ is_to from to _ first in omega (arith, here, first, less)) in
      subst (λ n. sum_below (label_of new) n < total_of old) (sym h.same_length) sum
