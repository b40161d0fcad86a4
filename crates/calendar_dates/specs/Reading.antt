-- What the text of a date reads as, and which dates follow it.
use Rattle.std.specs.Prelude.{◌+◌, ◌-◌, ◌*◌, ◌==◌, ◌&&◌, ℕ, Bool, nat_le, if◌then◌else◌, List, length, slice_index, Option, Some, None, pos, ◌+ℤ◌, int_le}
use Rattle.csv_fields.specs.Time.{digits_at, number_at}
use Rattle.jiff_core.specs.Calendar.{days_from_civil, days_in_month}
use Rattle.calendar_dates.specs.Days.{Day, day_number}

-- a dash stands at a place of a text
abbrev pub dash_at : List ℕ → ℕ → Bool
dash_at text place = slice_index text place == 45

-- four digits, a dash, two digits, a dash, two digits
abbrev pub has_date_form : List ℕ → Bool
has_date_form text =
    (length text == 10) && digits_at text 0 && digits_at text 2 && dash_at text 4 && digits_at text 5 && dash_at text 7 && digits_at text 8

-- a day of the calendar, of the years from 1 on
abbrev pub is_civil : ℕ → ℕ → ℕ → Bool
is_civil year month day =
    nat_le 1 year && nat_le 1 month && nat_le month 12 && nat_le 1 day && nat_le day (days_in_month (pos year) month)

-- the date with this year, month and day, where the calendar has it
unfoldable pub civil_of : ℕ → ℕ → ℕ → Option Day
civil_of year month day =
    if is_civil year month day then Some (record { year = pos year; month = month; day = day }) else None

-- the date that a text writes as YYYY-MM-DD
unfoldable pub date_read : List ℕ → Option Day
date_read text =
    if has_date_form text then civil_of (100 * number_at text 0 + number_at text 2) (number_at text 5) (number_at text 8) else None

-- so many dates, from the first on, end on 9999-12-31 at the latest
unfoldable pub ends_in_calendar : Day → ℕ → Bool
ends_in_calendar first count = int_le (day_number first +ℤ pos (count - 1)) (days_from_civil (pos 9999) 12 31)
