-- What the values of options read as.
use Rattle.std.specs.Prelude.{◌&&◌, ℕ, Bool, List, length, Option, Some, None, Result, Ok, Err, if◌then◌else◌, nat_le}
use Rattle.std.specs.Char.{is_ascii_digit}
use Rattle.std.specs.List.{list_all}
use Rattle.std.specs.Str.Parse.{digits_value}
use Rattle.csv_fields.specs.Time.{clock_time_of}
use Rattle.csv_fields.specs.declared.fault.FieldFault.{FieldFault}

-- 1 to 20 digits and nothing else
abbrev pub is_decimal : List ℕ → Bool
is_decimal text = nat_le 1 (length text) && nat_le (length text) 20 && list_all is_ascii_digit text

-- a number lies between two bounds
abbrev pub is_between : ℕ → ℕ → ℕ → Bool
is_between least greatest number = nat_le least number && nat_le number greatest

-- the number that digits write, where it lies between two bounds
unfoldable pub number_read : ℕ → ℕ → List ℕ → Option ℕ
number_read least greatest text =
    if is_decimal text && is_between least greatest (digits_value 10 text) then Some (digits_value 10 text) else None

-- a value without its fault
abbrev pub value_read : Result ℕ FieldFault → Option ℕ
value_read (Ok value) = Some value
value_read (Err fault) = None

-- the minute of the day that a text tells as HH:MM
abbrev pub minute_read : List ℕ → Option ℕ
minute_read text = value_read (clock_time_of text)

-- what the text of an option reads as, or its default where the option isn't there
abbrev pub value_or_default : ℕ → (List ℕ → Option ℕ) → Option (List ℕ) → Option ℕ
value_or_default default read None = Some default
value_or_default default read (Some text) = read text
