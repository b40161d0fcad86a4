-- A whole number, as a field writes it.
use Rattle.std.specs.Prelude.{◌≡◌, ◌≤◌, ◌⊎◌, ◌==◌, ◌||◌, ℕ, ℤ, pos, neg_ℤ, nat_lt, int_lt, if◌then◌else◌, List, ◌∷◌, length, drop, count_by, All, Result, Ok, Err}
use Rattle.std.specs.Char.{IsAsciiDigit, is_ascii_digit}
use Rattle.std.specs.List.{list_all}
use Rattle.std.specs.Str.Parse.{digits_value, starts_with_minus}
use Rattle.csv_fields.specs.declared.fault.FieldFault.{FieldFault}
use Rattle.csv_fields.specs.Fault.{empty, forbidden_byte, out_of_range, wrong_length}

-- the code of '-'
abbrev pub minus : ℕ
minus = 45

-- 1 to 20 digits
pub record IsDecimal (digits : List ℕ) : Type 0 where
  pub some : 1 ≤ length digits
  pub few : length digits ≤ 20
  pub each : All IsAsciiDigit digits

-- the field writes n: its digits in base ten, or a minus before them
pub record WritesWhole (field : List ℕ) (n : ℤ) : Type 0 where
  pub digits : List ℕ
  pub decimal : IsDecimal digits
  pub value : ((field ≡ digits) × (n ≡ pos (digits_value 10 digits))) ⊎ ((field ≡ minus ∷ digits) × (n ≡ neg_ℤ (pos (digits_value 10 digits))))

-- how many digits a field has
abbrev pub digit_count : List ℕ → ℕ
digit_count field = count_by is_ascii_digit field

-- a field read as digits alone, or its fault
abbrev pub magnitude_of : List ℕ → Result ℤ FieldFault
magnitude_of field = if list_all is_ascii_digit field then Ok (pos (digits_value 10 field)) else Err forbidden_byte

-- the same number with a minus
abbrev pub negated : Result ℤ FieldFault → Result ℤ FieldFault
negated (Ok n) = Ok (neg_ℤ n)
negated (Err fault) = Err fault

-- a field read as a number of any size that its digits allow, or its first fault
unfoldable pub number_of : List ℕ → Result ℤ FieldFault
number_of field =
    if length field == 0 then Err empty
    else if (digit_count field == 0) || nat_lt 20 (digit_count field) then Err wrong_length
    else if starts_with_minus field then negated (magnitude_of (drop 1 field))
    else magnitude_of field

-- a number, where it lies from least to greatest
abbrev pub within : ℤ → ℤ → Result ℤ FieldFault → Result ℤ FieldFault
within least greatest (Ok n) = if int_lt n least || int_lt greatest n then Err out_of_range else Ok n
within least greatest (Err fault) = Err fault

-- a field read as a whole number from least to greatest, or its first fault
unfoldable pub whole_of : List ℕ → ℤ → ℤ → Result ℤ FieldFault
whole_of field least greatest = within least greatest (number_of field)
