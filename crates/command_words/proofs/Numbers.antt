-- The number that an option's text writes.
use Rattle.std.proofs.Common.{◌≡◌, ◌≤◌, ◌<◌, ◌^◌, to_z, of_z, ◌&&◌, ℕ, ℤ, pos, List, [], ◌∷◌, true, false, length, refl, ap, subst, sym, ◌∙◌, arith, inl, inr}
use Rattle.std.specs.Prelude.{Some, None, ◌≤ℤ◌, nat_le}
use Rattle.std.specs.Char.{is_ascii_digit}
use Rattle.std.specs.List.{list_all}
use Rattle.std.specs.Str.Parse.{digits_value, starts_with_minus}
use Rattle.std.proofs.lemmas.Bool.{and_parts, cases_Bool}
use Rattle.std.proofs.lemmas.Bool.Decides.{nat_tests}
use Rattle.std.proofs.lemmas.Int.{ints, to_z-of_z}
use lib.IntN.{nat_abs}
use mir.Syntax.{w128}
use mir.Val.{SFits}
use Rattle.csv_fields.specs.Number.{IsDecimal, WritesWhole}
use Rattle.csv_fields.proofs.WholeForm.{digits_decide}
use Rattle.command_words.specs.Values.{is_between, is_decimal, number_read}

-- a text of digits, by the test
decimal_tests : (text : List ℕ) → IsDecimal text → is_decimal text ≡ true
decimal_tests text decimal =
    let all : list_all is_ascii_digit text ≡ true = (digits_decide text).1 decimal.each in
    let some = decimal.some in
    let few = decimal.few in
    grind (arith, nat_tests)

-- and by its form
tests_decimal : (text : List ℕ) → is_decimal text ≡ true → IsDecimal text
tests_decimal text test =
    let parts = and_parts (nat_le 1 (length text) && nat_le (length text) 20) (list_all is_ascii_digit text) test in
    let ends = and_parts (nat_le 1 (length text)) (nat_le (length text) 20) parts.0 in
    let some : nat_le 1 (length text) ≡ true = ends.0 in
    let few : nat_le (length text) 20 ≡ true = ends.1 in
    record {
      some = grind (arith, nat_tests);
      few = grind (arith, nat_tests);
      each = (digits_decide text).0 parts.1;
    }

-- a minus is no digit
signed : (text : List ℕ) → starts_with_minus text ≡ true → list_all is_ascii_digit text ≡ false
signed [] minus = absurd (grind (arith, nat_tests))
signed (byte ∷ rest) minus = let first : byte ≡ 45 = grind (arith, nat_tests) in rw first refl

-- a text with a minus is no number
pub signed_is_none : (text : List ℕ) (least greatest : ℕ) → starts_with_minus text ≡ true → None ≡ number_read least greatest text
unfolding number_read
signed_is_none text least greatest minus =
    let none = signed text minus in
    grind (arith, nat_tests)

-- a number of 64 bits, kept in 128 bits with a sign
pub kept : (n : ℤ) (value : ℕ) → n ≡ pos value → value < 2 ^ 64 → to_z w128 (of_z w128 n) ≡ pos value
kept n value same small =
    let fits : SFits w128 n = rw same (omega arith) in
    to_z-of_z w128 n fits ∙ same

reads : (text : List ℕ) (least greatest : ℕ) → IsDecimal text → least ≤ digits_value 10 text → digits_value 10 text ≤ greatest
    → Some (digits_value 10 text) ≡ number_read least greatest text
unfolding number_read
reads text least greatest decimal large small =
    let test = decimal_tests text decimal in
    let bounded : is_between least greatest (digits_value 10 text) ≡ true = grind (arith, nat_tests) in
    rw (test, bounded) refl

-- what a text without a minus writes, where it lies between the bounds
pub unsigned_reads : (text : List ℕ) (least greatest : ℕ) (n : ℤ) → starts_with_minus text ≡ false → WritesWhole text n → pos least ≤ℤ n → n ≤ℤ pos greatest
    → greatest < 2 ^ 64 → Some (nat_abs (to_z w128 (of_z w128 n))) ≡ number_read least greatest text
unsigned_reads text least greatest n plain writes reaches fits wide = elim writes.value [
  | inl whole ↦
      let decimal : IsDecimal text = subst IsDecimal (sym whole.0) writes.decimal in
      let value : n ≡ pos (digits_value 10 text) = whole.1 ∙ ap (λ ds. pos (digits_value 10 ds)) (sym whole.0) in
      let large : least ≤ digits_value 10 text = (let reach = rw value at reaches in omega (arith, ints)) in
      let small : digits_value 10 text ≤ greatest = (let fit = rw value at fits in omega (arith, ints)) in
      ap (λ z. Some (nat_abs z)) (kept n (digits_value 10 text) value (omega arith)) ∙ reads text least greatest decimal large small
  | inr minus ↦
      let bad : true ≡ false = rw minus.0 at plain in
      cc
]

-- a text that writes no number between the bounds
pub unread : (text : List ℕ) (least greatest : ℕ) → ((n : ℤ) → WritesWhole text n → pos least ≤ℤ n → n ≤ℤ pos greatest → ⊥)
    → None ≡ number_read least greatest text
unfolding number_read
unread text least greatest none = elim (cases_Bool (is_decimal text && is_between least greatest (digits_value 10 text))) [
  | inl read ↦
      let parts = and_parts (is_decimal text) (is_between least greatest (digits_value 10 text)) read in
      let bounds = and_parts (nat_le least (digits_value 10 text)) (nat_le (digits_value 10 text) greatest) parts.1 in
      let reaches : nat_le least (digits_value 10 text) ≡ true = bounds.0 in
      let bounded : nat_le (digits_value 10 text) greatest ≡ true = bounds.1 in
      let decimal = tests_decimal text parts.0 in
      let large : least ≤ digits_value 10 text = grind (arith, nat_tests) in
      let small : digits_value 10 text ≤ greatest = grind (arith, nat_tests) in
      let writes : WritesWhole text (pos (digits_value 10 text)) = record { digits = text; decimal = decimal; value = inl (refl, refl) } in
      absurd (none (pos (digits_value 10 text)) writes (omega (arith, ints)) (omega (arith, ints)))
  | inr other ↦ rw other refl
]
