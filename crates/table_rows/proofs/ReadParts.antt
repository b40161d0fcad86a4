-- What a record has where it reads: each step of its reading answered.
use Rattle.std.proofs.Common.{◌≡◌, ◌≤◌, ◌<◌, nat_le, ℕ, ℤ, pos, unsigned_abs, Bool, true, false, List, length, Option, Some, None, Result, Ok, Err, refl, arith}
use Rattle.std.specs.Prelude.{◌≤ℤ◌}
use Rattle.std.proofs.lemmas.Bool.Decides.{Decides-by_and, nat_tests}
use Rattle.std.proofs.lemmas.Int.{ints}
use Rattle.csv_fields.specs.declared.fault.FieldFault.{FieldFault}
use Rattle.csv_fields.specs.Name.{name_of, station_code_of}
use Rattle.csv_fields.specs.Number.{number_of as number_written, whole_of, within}
use Rattle.csv_fields.specs.Time.{clock_time_of}
use Rattle.fleet_model.specs.declared.limits.TheConstants.{MINUTES_PER_DAY}
use Rattle.entries.specs.Names.{IsName, IsNameByte, IsStationCode, is_name_byte}
use Rattle.std.specs.Char.{IsAsciiUppercase, is_ascii_uppercase}
use Rattle.std.specs.List.{list_all}
use Rattle.std.specs.Bool.{Decides}
use Rattle.table_rows.specs.Fields.{as_natural, known, natural_of, of_width, refused_where, well_formed}
use Rattle.table_rows.specs.Names.{number_of_name}

-- what two records read as is the same
pub same_answer : {B : Type 0} (a b : B) → ◌≡◌ {A = Result B ℕ} (Ok a) (Ok b) → a ≡ b
same_answer a b same = cc

-- a number that the limit doesn't refuse is below it
pub room_left : (limit n : ℕ) → nat_le limit n ≡ false → n < limit
room_left limit n room = grind (arith, nat_tests)

module _ {B : Type 0} where
  pub width_ok : {A : Type 0} (fields : Option A) (read : A → Result B ℕ) (answer : B) → of_width fields read ≡ Ok answer → (found : A) × (fields ≡ Some found) × (read found ≡ Ok answer)
  width_ok (Some found) read answer ok = (found, refl, ok)
  width_ok None read answer ok = absurd (cc ok)

  pub form_ok : {A : Type 0} (field : Result A FieldFault) (read : A → Result B ℕ) (answer : B) → well_formed field read ≡ Ok answer → (value : A) × (field ≡ Ok value) × (read value ≡ Ok answer)
  form_ok (Ok value) read answer ok = (value, refl, ok)
  form_ok (Err fault) read answer ok = absurd (cc ok)

  pub known_ok : (number : Option ℕ) (kind : ℕ) (read : ℕ → Result B ℕ) (answer : B) → known number kind read ≡ Ok answer → (n : ℕ) × (number ≡ Some n) × (read n ≡ Ok answer)
  known_ok (Some n) kind read answer ok = (n, refl, ok)
  known_ok None kind read answer ok = absurd (cc ok)

  pub not_refused : (test : Bool) (kind : ℕ) (read : Result B ℕ) (answer : B) → refused_where test kind read ≡ Ok answer → (test ≡ false) × (read ≡ Ok answer)
  not_refused true kind read answer ok = absurd (cc ok)
  not_refused false kind read answer ok = (refl, ok)

pub uppercase_decides : (byte : ℕ) → Decides (is_ascii_uppercase byte) (IsAsciiUppercase byte)
uppercase_decides byte = (λ e. grind (arith, nat_tests), λ h. grind (arith, nat_tests))

-- a field that reads as a code is one
pub code_form : (field : List ℕ) → station_code_of field ≡ Ok tt → IsStationCode field
unfolding station_code_of
code_form field ok =
    let all = Decides-by_and is_ascii_uppercase IsAsciiUppercase (list_all is_ascii_uppercase) uppercase_decides refl (λ _ _. refl) field in
    grind (arith, nat_tests)

-- a field that reads as a name is one
pub name_form : (field : List ℕ) → name_of field ≡ Ok tt → IsName field
unfolding name_of
name_form field ok =
    let all = Decides-by_and is_name_byte IsNameByte (list_all is_name_byte) (λ byte. grind (arith, nat_tests)) refl (λ _ _. refl) field in
    grind (arith, nat_tests)

-- a number that is read lies in its range
pub whole_within : (field : List ℕ) (least greatest n : ℤ) → whole_of field least greatest ≡ Ok n → (least ≤ℤ n) × (n ≤ℤ greatest)
unfolding whole_of
whole_within field least greatest n ok = by_number (number_written field) ok
  where
    by_number : (number : Result ℤ FieldFault) → within least greatest number ≡ Ok n → (least ≤ℤ n) × (n ≤ℤ greatest)
    by_number (Ok number) read = grind (arith, nat_tests, ints)
    by_number (Err fault) read = absurd (cc read)

pub natural_within : (field : List ℕ) (greatest n : ℕ) → natural_of field greatest ≡ Ok n → n ≤ greatest
natural_within field greatest n ok = by_number (whole_of field (pos 0) (pos greatest)) refl ok
  where
    by_number : (number : Result ℤ FieldFault) → whole_of field (pos 0) (pos greatest) ≡ number → as_natural number ≡ Ok n → n ≤ greatest
    by_number (Ok number) is read =
        let in_range = whole_within field (pos 0) (pos greatest) number is in
        let same : unsigned_abs number ≡ n = cc read in
        omega (arith, ints, in_range.0, in_range.1, same)
    by_number (Err fault) is read = absurd (cc read)

-- a time of the day is before its end
pub time_within : (field : List ℕ) (minute : ℕ) → clock_time_of field ≡ Ok minute → minute < MINUTES_PER_DAY
unfolding clock_time_of
time_within field minute ok = grind (arith, nat_tests)

-- the place of a name is one of the list
pub number_within : (name : List ℕ) (names : List (List ℕ)) (n : ℕ) → number_of_name name names ≡ Some n → n < length names
number_within name names n found = grind (arith, nat_tests)
