-- A multiple of a line that is added to sums of columns, number after number.
use Rattle.std.proofs.Common.{◌≡◌, ◌≢◌, ℕ, ◌+◌, ◌<◌, ◌⊎◌, ℤ, pos, ◌+ℤ◌, ◌*ℤ◌, List, [], ◌∷◌, length, set, refl, sym, ◌∙◌, ap, subst, arith, inl, inr, length-set, get_or-set_same, get_or-set_other}
use Rattle.std.proofs.lemmas.Bool.{cases_eq}
use Rattle.std.proofs.lemmas.Int.{ints}
use Rattle.std.proofs.lemmas.List.{ext_get_or}
use lib.IntN.{*ℤ-zero}
use Rattle.sums.specs.Places.{list_below}
use Rattle.sums.proofs.Places.{get_or-list_below, length-list_below}
use Rattle.sums.proofs.NumberTests.{if_apart, if_same}
use Rattle.sums.proofs.Sizes.{nothing_added}
use Rattle.frac_row.specs.Outgrown.{IsWithin}
use Rattle.frac_row.specs.declared.entry.Entry.{Entry}
use Rattle.frac_row.specs.Content.{number_in, AreRising}
use Rattle.frac_row.proofs.Contents.{none_before, rising_from}
use Rattle.simplex_frac.specs.end_check.Ends.{value_in}
use Rattle.simplex_frac.specs.end_check.Sums.{AddWithin, AddsWithin, sums_with}

-- a column whose number is still to come, or has come, or is none
abbrev pub IsColumnDone : List ℤ → ℤ → List ℤ → List Entry → ℕ → Type 0
IsColumnDone sums value line left c = (number_in left c ≡ value_in line c) ⊎ ((number_in left c ≡ pos 0) × AddsWithin (value_in sums c) value (value_in line c))

pub record IsAddingTimes (sums : List ℤ) (value : ℤ) (line now : List ℤ) (left : List Entry) : Type 0 where
  pub same_length : length now ≡ length sums
  pub rising : AreRising 0 (length sums) left
  pub each : (c : ℕ) → c < length sums → value_in now c +ℤ (value *ℤ number_in left c) ≡ value_in sums c +ℤ (value *ℤ value_in line c)
  pub done : (c : ℕ) → c < length sums → IsColumnDone sums value line left c

no_product : (value z : ℤ) → z ≡ pos 0 → value *ℤ z ≡ pos 0
no_product value z e = ap (λ y. value *ℤ y) e ∙ *ℤ-zero value

-- nothing that is 0 can't be added
adds_nothing : (sum value z : ℤ) → z ≡ pos 0 → IsWithin sum → AddsWithin sum value z
adds_nothing sum value z e within = record {
  product = subst IsWithin (sym (no_product value z e)) (omega arith);
  total = subst IsWithin (nothing_added sum (value *ℤ z) (no_product value z e)) within;
}

module _ (sums : List ℤ) (value : ℤ) (line now : List ℤ) (entry : Entry) (left all : List Entry) (h : IsAddingTimes sums value line now all) (e : all ≡ entry ∷ left) where
  here : AreRising 0 (length sums) (entry ∷ left)
  here = subst (AreRising 0 (length sums)) e h.rising

  pub column_in : entry.column < length sums
  column_in = here.1

  number_is : number_in all entry.column ≡ entry.number
  number_is = ap (λ es. number_in es entry.column) e ∙ if_same entry.column entry.column entry.number (number_in left entry.column) refl

  others : (c : ℕ) → entry.column ≢ c → number_in all c ≡ number_in left c
  others c apart = ap (λ es. number_in es c) e ∙ if_apart entry.column c entry.number (number_in left c) apart

  gone : number_in left entry.column ≡ pos 0
  gone = none_before (entry.column + 1) (length sums) left entry.column here.2 (omega arith)

  -- what stands there with the number's multiple is what is wanted
  comes_to : value_in now entry.column +ℤ (value *ℤ entry.number) ≡ value_in sums entry.column +ℤ (value *ℤ value_in line entry.column)
  comes_to = ap (λ z. value_in now entry.column +ℤ (value *ℤ z)) (sym number_is) ∙ h.each entry.column here.1

  adds_there : AddsWithin (value_in now entry.column) value entry.number → AddsWithin (value_in sums entry.column) value (value_in line entry.column)
  adds_there adds = elim (h.done entry.column here.1) [
    | inl same ↦ record {
      product = subst (λ z. IsWithin (value *ℤ z)) (sym number_is ∙ same) adds.product;
      total = subst IsWithin comes_to adds.total;
    }
    | inr did ↦ did.1
  ]

  pub times_more : (new : ℤ) → AddsWithin (value_in now entry.column) value entry.number → new ≡ value_in now entry.column +ℤ (value *ℤ entry.number) → IsAddingTimes sums value line (set now entry.column new) left
  times_more new adds is = record {
    same_length = length-set now entry.column new ∙ h.same_length;
    rising = rising_from (entry.column + 1) 0 (length sums) left (omega arith) here.2;
    each = λ c below. elim (cases_eq entry.column c) [
      | inl same ↦ subst (λ k. value_in (set now entry.column new) k +ℤ (value *ℤ number_in left k) ≡ value_in sums k +ℤ (value *ℤ value_in line k)) same
          (moved (value_in (set now entry.column new) entry.column) new _ _ (get_or-set_same now entry.column new (pos 0) (omega (arith, here.1, h.same_length))) (is ∙ comes_to) (no_product value _ gone))
      | inr apart ↦ ap (λ z. z +ℤ (value *ℤ number_in left c)) (get_or-set_other now entry.column c new (pos 0) (λ s. apart (sym s))) ∙ ap (λ z. value_in now c +ℤ (value *ℤ z)) (sym (others c apart)) ∙ h.each c below
    ];
    done = λ c below. elim (cases_eq entry.column c) [
      | inl same ↦ inr (subst (λ k. (number_in left k ≡ pos 0) × AddsWithin (value_in sums k) value (value_in line k)) same (gone, adds_there adds))
      | inr apart ↦ subst (λ z. (z ≡ value_in line c) ⊎ ((z ≡ pos 0) × AddsWithin (value_in sums c) value (value_in line c))) (others c apart) (h.done c below)
    ];
  }
    where
      moved : (x y u v : ℤ) → x ≡ y → y ≡ u → v ≡ pos 0 → x +ℤ v ≡ u
      moved x y u v p q r = omega (arith, ints)

  pub times_fails : ¬ (AddsWithin (value_in now entry.column) value entry.number) → IsWithin (value_in sums entry.column) → ¬ (AddWithin sums value line)
  times_fails fails within all_add = fails (record { product = product; total = subst IsWithin (sym comes_to) (all_add.each entry.column here.1).total })
    where
      product : IsWithin (value *ℤ entry.number)
      product = elim (h.done entry.column here.1) [
        | inl same ↦ subst (λ z. IsWithin (value *ℤ z)) (sym same ∙ number_is) (all_add.each entry.column here.1).product
        | inr did ↦ subst IsWithin (sym (no_product value entry.number (sym number_is ∙ did.0))) (omega arith)
      ]

pub times_done : (sums : List ℤ) (value : ℤ) (line now : List ℤ) (left : List Entry) → IsAddingTimes sums value line now left → left ≡ [] → ((c : ℕ) → IsWithin (value_in sums c)) → (AddWithin sums value line) × (now ≡ sums_with sums value line)
unfolding sums_with
times_done sums value line now left h e within = (
  record {
    each = λ c below. elim (h.done c below) [
      | inl same ↦ adds_nothing (value_in sums c) value (value_in line c) (sym same ∙ ap (λ es. number_in es c) e) (within c)
      | inr did ↦ did.1
    ];
  },
  ext_get_or (pos 0) now (list_below (λ c. value_in sums c +ℤ (value *ℤ value_in line c)) (length sums)) (h.same_length ∙ sym (length-list_below _ (length sums)))
      (λ c below.
      let inside : c < length sums = omega (arith, below, h.same_length) in
      nothing_added (value_in now c) (value *ℤ number_in left c) (no_product value _ (ap (λ es. number_in es c) e)) ∙ h.each c inside ∙ sym (get_or-list_below _ (length sums) c (pos 0) inside)),
)
