-- Days of the proleptic Gregorian calendar, one after the other.
use Rattle.std.specs.Prelude.{◌≡◌, ◌<◌, ◌⊎◌, ℕ, zero, suc, ◌+◌, ◌-◌, nat_lt, if◌then◌else◌, ℤ, pos, negsuc, ◌+ℤ◌, ◌-ℤ◌, ◌<ℤ◌, List, [], ◌∷◌, ◌++◌, Option, Some, None}
use Rattle.jiff_core.specs.declared.civil.date.Date as civil
use Rattle.jiff_core.specs.Calendar.{IsEpochDay, days_from_civil, days_in_month}
use Rattle.calendar_dates.specs.declared.date.Date.{Date}
use Rattle.sums.specs.Places.{list_below}
use Rattle.jiff_fmt.specs.Text.{pad2, year_text}

pub record Day : Type 0 where
  pub year : ℤ
  pub month : ℕ
  pub day : ℕ

-- the day of a date
abbrev pub day_on : Date → Day
day_on date = record { year = date.year; month = date.month; day = date.day }

-- the same, of a date of `jiff`
abbrev pub civil_day_on : civil.Date → Day
civil_day_on date = record { year = date.year; month = date.month; day = date.day }

-- the day number of a day, as `jiff` counts days
abbrev pub day_number : Day → ℤ
day_number day = days_from_civil day.year day.month day.day

-- the next day: in the same month, else the first of the next month, else of the next year
abbrev pub next_day : Day → Day
next_day d =
    if nat_lt d.day (days_in_month d.year d.month) then record { year = d.year; month = d.month; day = d.day + 1 }
    else (if nat_lt d.month 12 then record { year = d.year; month = d.month + 1; day = 1 }
    else record { year = d.year +ℤ pos 1; month = 1; day = 1 })

-- so many days later
unfoldable pub day_after : Day → ℕ → Day
day_after d zero = d
day_after d (suc n) = next_day (day_after d n)

-- so many days, from the first on
abbrev pub days_from : Day → ℕ → List Day
days_from first count = list_below (day_after first) count

-- one day comes before another: in an earlier year, in the same year in an earlier month, or in the same month before it
abbrev pub IsEarlier : Day → Day → Type 0
IsEarlier a b = (a.year <ℤ b.year) ⊎ ((a.year ≡ b.year) × ((a.month < b.month) ⊎ ((a.month ≡ b.month) × (a.day < b.day))))

-- a number, where it isn't below zero
abbrev pub where_natural : ℤ → Option ℕ
where_natural (pos n) = Some n
where_natural (negsuc n) = None

-- how many days after the first day another one is, by their day numbers, where it isn't earlier
unfoldable pub days_between : Day → Day → Option ℕ
days_between first day = where_natural (day_number day -ℤ day_number first)

abbrev pub no_day : Day
no_day = record { year = pos 0; month = 0; day = 0 }

-- `2024-06-19`
abbrev pub day_text : Day → List ℕ
day_text d = year_text d.year ++ 45 ∷ [] ++ pad2 d.month ++ 45 ∷ [] ++ pad2 d.day

-- so many days, the date's among them, end before the calendar of `jiff` does, which has the years -9999 to 9999
pub record HasDays (date : Date) (count : ℕ) : Type 0 where
  pub last : IsEpochDay (day_number (day_on date) +ℤ pos (count - 1))

-- so many days are from -9999-01-01 to the date
pub record IsCounted (date : Date) (days : ℕ) : Type 0 where
  pub number : day_number (day_on date) +ℤ pos 4_371_587 ≡ pos days
