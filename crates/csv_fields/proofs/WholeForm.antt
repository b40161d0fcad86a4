-- A field reads as a whole number exactly where it writes that number.
use Rattle.std.proofs.Common.{◌≡◌, ◌≤◌, ◌⊎◌, ◌↔◌, ◌||◌, ℕ, ℤ, pos, neg_ℤ, List, [], ◌∷◌, true, false, length, drop, get_or, refl, ap, subst, sym, ◌∙◌, arith, inl, inr}
use Rattle.std.specs.Prelude.{All, Decides, Result, Ok, Err, ◌≤ℤ◌, int_lt}
use Rattle.std.specs.Char.{IsAsciiDigit, is_ascii_digit}
use Rattle.std.specs.List.{list_all}
use Rattle.std.specs.Str.Parse.{digits_value, starts_with_minus}
use Rattle.std.proofs.lemmas.Bool.{cases_Bool}
use Rattle.std.proofs.lemmas.Bool.Decides.{Decides-by_and, nat_tests}
use Rattle.std.proofs.lemmas.Int.{ints}
use Rattle.csv_fields.specs.declared.fault.FieldFault.{FieldFault}
use Rattle.csv_fields.specs.Number.{IsDecimal, WritesWhole, digit_count, magnitude_of, negated, number_of, whole_of, within}
use Rattle.csv_fields.proofs.Digits.{count-cons, count_all}

pub digit_decides : (byte : ℕ) → Decides (is_ascii_digit byte) (IsAsciiDigit byte)
digit_decides byte = (λ e. grind (arith, nat_tests), λ h. grind (arith, nat_tests))

pub digits_decide : (field : List ℕ) → Decides (list_all is_ascii_digit field) (All IsAsciiDigit field)
digits_decide = Decides-by_and is_ascii_digit IsAsciiDigit (list_all is_ascii_digit) digit_decides refl (λ _ _. refl)

-- digits do not begin with a minus
not_minus : (digits : List ℕ) → 1 ≤ length digits → All IsAsciiDigit digits → starts_with_minus digits ≡ false
not_minus digits some each =
    let first : 48 ≤ get_or digits 0 0 = (each 0 0 some).0 in
    grind (arith, nat_tests)

-- a field that is not empty, has 1 to 20 digits, and begins with no minus
plain_is : (field : List ℕ) (count : ℕ) → digit_count field ≡ count → 1 ≤ count → count ≤ 20 → 1 ≤ length field → starts_with_minus field ≡ false
    → number_of field ≡ magnitude_of field
unfolding number_of
plain_is field count is some few long plain = grind (arith, nat_tests)

-- or with one
minus_is : (field : List ℕ) (count : ℕ) → digit_count field ≡ count → 1 ≤ count → count ≤ 20 → 1 ≤ length field → starts_with_minus field ≡ true
    → number_of field ≡ negated (magnitude_of (drop 1 field))
unfolding number_of
minus_is field count is some few long minus = grind (arith, nat_tests)

-- a field of 1 to 20 digits and nothing else reads as their value
decimal_reads : (digits : List ℕ) → IsDecimal digits → number_of digits ≡ Ok (pos (digits_value 10 digits))
decimal_reads digits decimal =
    let all : list_all is_ascii_digit digits ≡ true = (digits_decide digits).1 decimal.each in
    plain_is digits (length digits) (count_all digits all) decimal.some decimal.few decimal.some (not_minus digits decimal.some decimal.each) ∙ rw all refl

-- and so it does with a minus before it
negative_reads : (digits : List ℕ) → IsDecimal digits → number_of (45 ∷ digits) ≡ Ok (neg_ℤ (pos (digits_value 10 digits)))
negative_reads digits decimal =
    let all : list_all is_ascii_digit digits ≡ true = (digits_decide digits).1 decimal.each in
    let count : digit_count (45 ∷ digits) ≡ length digits = count-cons 45 digits ∙ omega (arith, count_all digits all) in
    minus_is (45 ∷ digits) (length digits) count decimal.some decimal.few (omega arith) refl ∙ rw all refl

-- what reads as a number has 1 to 20 digits, and its digits are all of it, or all but a minus
reads_parts : (field : List ℕ) (n : ℤ) → number_of field ≡ Ok n
    → (1 ≤ digit_count field) × (digit_count field ≤ 20) × (1 ≤ length field) × (((starts_with_minus field ≡ true) × (negated (magnitude_of (drop 1 field)) ≡ Ok n)) ⊎ (magnitude_of field ≡ Ok n))
unfolding number_of
reads_parts field n reads = grind (arith, nat_tests)

-- digits alone read as their value
magnitude_reads : (field : List ℕ) (n : ℤ) → magnitude_of field ≡ Ok n → (list_all is_ascii_digit field ≡ true) × (n ≡ pos (digits_value 10 field))
magnitude_reads field n reads = elim (cases_Bool (list_all is_ascii_digit field)) [
  | inl all ↦ (all, (let e = rw all at reads in cc e))
  | inr other ↦ (let e = rw other at reads in cc e)
]

negated_reads : (field : List ℕ) (n : ℤ) → negated (magnitude_of field) ≡ Ok n → (list_all is_ascii_digit field ≡ true) × (n ≡ neg_ℤ (pos (digits_value 10 field)))
negated_reads field n reads = elim (cases_Bool (list_all is_ascii_digit field)) [
  | inl all ↦ (all, (let e = rw all at reads in cc e))
  | inr other ↦ (let e = rw other at reads in cc e)
]

minus_first : (field : List ℕ) → 1 ≤ length field → starts_with_minus field ≡ true → field ≡ 45 ∷ drop 1 field
minus_first [] long minus = absurd (omega arith)
minus_first (byte ∷ rest) long minus = let first : byte ≡ 45 = grind (arith, nat_tests) in ap (λ b. b ∷ rest) first

-- what reads as a number writes it
reads_written : (field : List ℕ) (n : ℤ) → number_of field ≡ Ok n → WritesWhole field n
reads_written field n reads =
    let (some, few, long, how) = reads_parts field n reads in
    elim how [
      | inl negative ↦
          let (all, value) = negated_reads (drop 1 field) n negative.1 in
          let text : field ≡ 45 ∷ drop 1 field = minus_first field long negative.0 in
          let count : digit_count field ≡ length (drop 1 field) = ap digit_count text ∙ count-cons 45 (drop 1 field) ∙ omega (arith, count_all (drop 1 field) all) in
          record {
            digits = drop 1 field;
            decimal = record { some = omega arith; few = omega arith; each = (digits_decide (drop 1 field)).0 all };
            value = inr (text, value);
          }
      | inr plain ↦
          let (all, value) = magnitude_reads field n plain in
          let count : digit_count field ≡ length field = count_all field all in
          record {
            digits = field;
            decimal = record { some = omega arith; few = omega arith; each = (digits_decide field).0 all };
            value = inl (refl, value);
          }
    ]

-- and what writes a number reads as it
written_reads : (field : List ℕ) (n : ℤ) → WritesWhole field n → number_of field ≡ Ok n
written_reads field n written = elim (written.value) [
  | inl plain ↦ ap number_of plain.0 ∙ decimal_reads written.digits written.decimal ∙ ap Ok (sym plain.1)
  | inr negative ↦ ap number_of negative.0 ∙ negative_reads written.digits written.decimal ∙ ap Ok (sym negative.1)
]

inside : (m least greatest : ℤ) → (int_lt m least || int_lt greatest m) ≡ false → (least ≤ℤ m) × (m ≤ℤ greatest)
inside m least greatest test = (grind (arith, ints), grind (arith, ints))

passes : (m least greatest : ℤ) → least ≤ℤ m → m ≤ℤ greatest → (int_lt m least || int_lt greatest m) ≡ false
passes m least greatest low high = grind (arith, ints)

within_form : (answer : Result ℤ FieldFault) (least greatest n : ℤ) → (within least greatest answer ≡ Ok n) ↔ ((answer ≡ Ok n) × (least ≤ℤ n) × (n ≤ℤ greatest))
within_form (Ok m) least greatest n = (
  λ e. elim (cases_Bool (int_lt m least || int_lt greatest m)) [
    | inl outside ↦ (let bad = rw outside at e in cc bad)
    | inr test ↦
        let same : m ≡ n = (let good = rw test at e in cc good) in
        let (low, high) = inside m least greatest test in
        (ap Ok same, (let P : ℤ → Type 0 = λ k. least ≤ℤ k in subst P same low), (let P : ℤ → Type 0 = λ k. k ≤ℤ greatest in subst P same high))
  ],
  λ h. let same : m ≡ n = cc (h.0) in rw (same, passes n least greatest h.1 h.2) refl,
)
within_form (Err fault) least greatest n = (λ e. cc e, λ h. cc (h.0))

whole_form : (field : List ℕ) (least greatest n : ℤ) → (whole_of field least greatest ≡ Ok n) ↔ (WritesWhole field n × (least ≤ℤ n) × (n ≤ℤ greatest))
unfolding whole_of
whole_form field least greatest n = (
  λ e. let (reads, low, high) = (within_form (number_of field) least greatest n).0 e in (reads_written field n reads, low, high),
  λ h. (within_form (number_of field) least greatest n).1 (written_reads field n h.0, h.1, h.2),
)

-- an answer that is the field's reading tells the same
pub answer_form : (answer : Result ℤ FieldFault) (field : List ℕ) (least greatest : ℤ) → answer ≡ whole_of field least greatest
    → (n : ℤ) → (answer ≡ Ok n) ↔ (WritesWhole field n × (least ≤ℤ n) × (n ≤ℤ greatest))
answer_form answer field least greatest reads n = rw reads (whole_form field least greatest n)
