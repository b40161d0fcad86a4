-- The records of a plan read as its choices, and no others do.
use Rattle.std.proofs.Common.{◌≡◌, ℕ, ◌<◌, ◌≤◌, Bool, List, [], ◌∷◌, codes, length, slice_index_or, bytes_eq, true, false, not, Option, Some, None, Result, Ok, refl, ap, subst, ◌∙◌, inl, inr, arith}
use Rattle.std.specs.Prelude.{nat_le, nat_lt, ◌&&◌}
use Rattle.std.specs.Str.{is_utf8}
use Rattle.std.proofs.lemmas.Bool.{cases_Bool, cases_lt, le-ltb, leb-false, lt-leb}
use Rattle.std.proofs.lemmas.List.FromFn.{get_or-map-range_with_len, length-map-range_with_len}
use Rattle.std.proofs.lemmas.Option.{slice_get-get_or, slice_get_past}
use Rattle.std.proofs.lemmas.Slice.Eq.{bytes_eq-Decides}
use Rattle.fleet_model.specs.Counts.{choice_at}
use Rattle.fleet_model.specs.Legal.{IsAssignment}
use Rattle.fleet_model.specs.Schedule.{choices_in, leg_of, leg_on, legs_in, no_leg}
use Rattle.fleet_model.specs.declared.tables.Tables.{Tables}
use Rattle.table_rows.specs.Rows.{Fields}
use Rattle.table_rows.specs.Fields.{refused_where}
use Rattle.table_rows.proofs.FrontReading.{bytes_eq-self}
use Rattle.plan_text.specs.Reading.{choice_read, choice_with, fault_at, present, texts_in, where_texts}
use Rattle.plan_text.specs.declared.faults.TheConstants.{UNKNOWN_CHOICE, WRONG_FIELDS, WRONG_FLIGHT}
use Rattle.plan_text.specs.Text.{fleet_text, leg_record, leg_records, pair_record, record_of, shift_text}
use Rattle.plan_text.proofs.ChoiceTexts.{choice_found, texts_found}
use Rattle.plan_text.proofs.FieldTexts.{fleet_is_text, own_text, shift_is_text}
use Rattle.plan_text.proofs.NameText.{name_is_text}

-- a record that reads as a choice at the place of a leg is that of the leg and the choice
pub record IsReadAt (t : Tables) (l : ℕ) (fields : Fields) (c : ℕ) : Type 0 where
  pub leg : l < legs_in t
  pub choice : c < choices_in t l
  pub same : fields ≡ pair_record t l c

-- three texts are UTF-8, or they aren't there
where_same : (a p : List ℕ × List ℕ × List ℕ) → where_texts (Some a) ≡ Some p → a ≡ p
where_same a p found = elim (cases_Bool (is_utf8 a.0 && is_utf8 a.1 && is_utf8 a.2)) [
  | inl all ↦ (let e = rw all at found in cc e)
  | inr some ↦ (let e = rw some at found in cc e)
]

-- three texts of a record
texts : (windows : Bool) (fields : Fields) (p : List ℕ × List ℕ × List ℕ) → texts_in windows fields ≡ Some p → fields ≡ record_of windows p.0 p.1 p.2
texts true [] p found = cc found
texts true (a ∷ []) p found = cc found
texts true (a ∷ b ∷ []) p found = cc found
texts true (a ∷ b ∷ c ∷ d ∷ rest) p found = cc found
texts true (a ∷ b ∷ c ∷ []) p found = ap (λ q. record_of true q.0 q.1 q.2) (where_same (a, b, c) p found)
texts false [] p found = cc found
texts false (a ∷ []) p found = cc found
texts false (a ∷ b ∷ c ∷ rest) p found = cc found
texts false (a ∷ b ∷ []) p found = ap (λ q. record_of false q.0 q.1 q.2) (where_same (a, b, codes "0") p found)

-- what the texts of a record read as
abbrev texts_read : Tables → ℕ → List ℕ → List ℕ → List ℕ → Result ℕ ℕ
texts_read t l flight fleet shift =
    refused_where (not (bytes_eq flight (leg_of t l).flight)) WRONG_FLIGHT (present (choice_with t l fleet shift) UNKNOWN_CHOICE Ok)

texts_read_at : (t : Tables) (l : ℕ) (flight fleet shift : List ℕ) (c : ℕ) → l < legs_in t → texts_read t l flight fleet shift ≡ Ok c → IsReadAt t l (record_of t.windows flight fleet shift) c
texts_read_at t l flight fleet shift c leg read = elim (cases_Bool (bytes_eq flight (leg_of t l).flight)) [
  | inl same ↦ by_choice (choice_with t l fleet shift) refl ((bytes_eq-Decides flight (leg_of t l).flight).0 same) (rw same at read)
  | inr other ↦ (let h = rw other at read in cc h)
]
  where
    by_choice : (o : Option ℕ) → choice_with t l fleet shift ≡ o → flight ≡ (leg_of t l).flight → present o UNKNOWN_CHOICE Ok ≡ Ok c → IsReadAt t l (record_of t.windows flight fleet shift) c
    by_choice None found same none = cc none
    by_choice (Some n) found same some =
        let is : n ≡ c = cc some in
        let texts = texts_found t l leg fleet shift c (found ∙ ap (λ n. Some n) is) in
        record { leg = leg; choice = texts.known; same = rw (same, texts.fleet_same, texts.shift_same) refl }

pub read_at : (t : Tables) (l : ℕ) (fields : Fields) (c : ℕ) → choice_read t l fields ≡ Ok c → IsReadAt t l fields c
unfolding choice_read
read_at t l fields c read = elim (cases_Bool (nat_le (legs_in t) l)) [
  | inl beyond ↦ (let h = rw beyond at read in cc h)
  | inr within ↦ by_texts (texts_in t.windows fields) refl (leb-false (legs_in t) l within) (rw within at read)
]
  where
    by_texts : (o : Option (List ℕ × List ℕ × List ℕ)) → texts_in t.windows fields ≡ o → l < legs_in t
        → present o WRONG_FIELDS (λ (flight, fleet, shift). texts_read t l flight fleet shift) ≡ Ok c → IsReadAt t l fields c
    by_texts None found leg none = cc none
    by_texts (Some p) found leg some = rw (texts t.windows fields p found) (texts_read_at t l p.0 p.1 p.2 c leg some)

-- the record of a leg and one of its choices reads as the choice
own_texts : (windows : Bool) (flight fleet shift : List ℕ) → is_utf8 flight ≡ true → is_utf8 fleet ≡ true → is_utf8 shift ≡ true → (windows ≡ false → shift ≡ codes "0")
    → texts_in windows (record_of windows flight fleet shift) ≡ Some (flight, fleet, shift)
own_texts true flight fleet shift first second third own = rw (first, second, third) refl
own_texts false flight fleet shift first second third own =
    subst (λ text. where_texts (Some (flight, fleet, text)) ≡ Some (flight, fleet, shift)) (own refl) (rw (first, second, third) refl)

pub pair_reads : (t : Tables) (l c : ℕ) → l < legs_in t → c < choices_in t l → choice_read t l (pair_record t l c) ≡ Ok c
unfolding choice_read
pair_reads t l c leg known =
    let within : nat_le (legs_in t) l ≡ false = lt-leb (legs_in t) l leg in
    let flight = name_is_text (leg_of t l).flight (t.in_range.legs_fit.each l no_leg leg).flight in
    let texts = own_texts t.windows (leg_of t l).flight (fleet_text t (leg_on l c)) (shift_text t (leg_on l c)) flight (fleet_is_text t (leg_on l c)) (shift_is_text t l c leg) (own_text t l c leg) in
    let found = choice_found t l leg (fleet_text t (leg_on l c)) (shift_text t (leg_on l c)) c (record { known = known; fleet_same = refl; shift_same = refl }) in
    rw (within, texts, bytes_eq-self (leg_of t l).flight, found) refl

-- the record of a plan at the place of a leg
pub leg_record_at : (t : Tables) (a : List ℕ) (l : ℕ) (d : Fields) → l < legs_in t → slice_index_or (leg_records t a (legs_in t)) l d ≡ leg_record t a l
leg_record_at t a l d leg = get_or-map-range_with_len (leg_record t a) 0 (legs_in t) l l d leg (omega arith)

-- at no place anything is wrong with the records of a plan
pub no_fault : (t : Tables) (a : List ℕ) (l : ℕ) → IsAssignment t a → fault_at t (leg_records t a (legs_in t)) l ≡ None
no_fault t a l is =
    let count = length-map-range_with_len (leg_record t a) 0 (legs_in t) in
    elim (cases_lt l (legs_in t)) [
      | inl leg ↦
          (let there : l < length (leg_records t a (legs_in t)) = omega arith in
          rw (slice_get-get_or (leg_records t a (legs_in t)) l [] there, leg_record_at t a l [] leg, pair_reads t l (choice_at a l) leg (is.known l leg)) refl)
      | inr beyond ↦
          (let past : length (leg_records t a (legs_in t)) ≤ l = omega arith in
          let no_leg_there : nat_lt l (legs_in t) ≡ false = le-ltb l (legs_in t) beyond in
          rw (slice_get_past (leg_records t a (legs_in t)) l past, no_leg_there) refl)
    ]
