-- A time of the day, HH:MM.
use Rattle.std.specs.Prelude.{◌≡◌, ◌<◌, ◌+◌, ◌-◌, ◌*◌, ◌/◌, ◌%◌, ◌==◌, ◌&&◌, ℕ, Bool, nat_lt, if◌then◌else◌, List, [], ◌∷◌, ◌++◌, length, slice_index, Result, Ok, Err}
use Rattle.std.specs.Char.{is_ascii_digit}
use Rattle.csv_fields.specs.declared.fault.FieldFault.{FieldFault}
use Rattle.csv_fields.specs.Fault.{not_a_time}

-- the code of ':'
abbrev pub colon : ℕ
colon = 58

-- a number below 100, as two digits
abbrev pub two_digits_of : ℕ → List ℕ
two_digits_of n = (48 + n / 10) ∷ (48 + n % 10) ∷ []

-- the field is HH:MM, hours below 24 and minutes below 60, and tells this minute of the day
pub record IsClockTime (field : List ℕ) (minute : ℕ) : Type 0 where
  pub hours : ℕ
  pub minutes : ℕ
  pub hours_fit : hours < 24
  pub minutes_fit : minutes < 60
  pub text : field ≡ two_digits_of hours ++ (colon ∷ two_digits_of minutes)
  pub value : minute ≡ 60 * hours + minutes

-- two digits stand at a place of a field
abbrev pub digits_at : List ℕ → ℕ → Bool
digits_at field place = is_ascii_digit (slice_index field place) && is_ascii_digit (slice_index field (place + 1))

-- the number that two digits write, from a place of a field on
abbrev pub number_at : List ℕ → ℕ → ℕ
number_at field place = 10 * (slice_index field place - 48) + (slice_index field (place + 1) - 48)

-- two digits, a colon, two digits
abbrev pub has_clock_form : List ℕ → Bool
has_clock_form field = (length field == 5) && digits_at field 0 && (slice_index field 2 == colon) && digits_at field 3

-- a field read as a time of the day, or its fault
unfoldable pub clock_time_of : List ℕ → Result ℕ FieldFault
clock_time_of field =
    if has_clock_form field && nat_lt (number_at field 0) 24 && nat_lt (number_at field 3) 60
    then Ok (60 * number_at field 0 + number_at field 3)
    else Err not_a_time
