-- Dates of the calendar, by their year, month and day.
use Rattle.std.proofs.Common.{◌≡◌, ◌≤◌, ◌<◌, ◌∙◌, ◌-◌, ◌↔◌, ℕ, ℤ, pos, ◌+ℤ◌, true, refl, sym, subst, arith, inl, inr}
use Rattle.std.specs.Prelude.{◌&&◌, ◌*◌, ◌+◌, ◌==◌, if◌then◌else◌, Bool, List, Option, Some, None, false, length, nat_le, int_le, option_and_then, slice_index}
use Rattle.std.proofs.lemmas.Bool.{and_parts, cases_Bool, eq-eqb, true≢false}
use Rattle.std.proofs.lemmas.Bool.Decides.{nat_tests}
use Rattle.jiff_core.specs.declared.civil.date.Date.{Date}
use Rattle.calendar_dates.specs.declared.date.Date as ours
use Rattle.jiff_core.specs.Calendar.{IsDate, IsEpochDay, days_from_civil, days_in_month}
use Rattle.jiff_core.specs.Date.{epoch_day}
use Rattle.jiff_core.proofs.DateLemmas.{days_from_civil-max, epoch_day_range}
use Rattle.jiff_core.proofs.SignedLemmas.{signed_arith}
use Rattle.csv_fields.specs.Time.{digits_at, number_at}
use Rattle.calendar_dates.specs.Days.{Day, civil_day_on, day_number, day_on}
use Rattle.calendar_dates.specs.Reading.{civil_of, date_read, ends_in_calendar, is_civil}

-- our date, as the library has it
abbrev pub civil_date : ours.Date → Date
civil_date date =
    record { year = date.year; month = date.month; day = date.day; year_in = date.year_in; month_in = date.month_in; day_in = date.day_in }

pub day_number_range : (date : ours.Date) → IsEpochDay (day_number (day_on date))
day_number_range date = epoch_day_range (civil_date date)

-- a date that the calendar has passes the test
passes : (year month day : ℕ) → 1 ≤ year → 1 ≤ month → month ≤ 12 → 1 ≤ day → day ≤ days_in_month (pos year) month → is_civil year month day ≡ true
passes year month day some first last early late =
    let long : nat_le day (days_in_month (pos year) month) ≡ true = grind (arith, nat_tests) in
    grind (arith, nat_tests)

-- a date of the library, by numbers that are its year, month and day
pub is_read : (year month day : ℕ) (date : Date) → 1 ≤ year → date.year ≡ pos year → date.month ≡ month → date.day ≡ day
    → Some (civil_day_on date) ≡ civil_of year month day
unfolding civil_of
is_read year month day date some same_year same_month same_day =
    let lo : 1 ≤ month = subst (λ m. 1 ≤ m) same_month date.month_in.0 in
    let hi : month ≤ 12 = subst (λ m. m ≤ 12) same_month date.month_in.1 in
    let early : 1 ≤ day = subst (λ d. 1 ≤ d) same_day date.day_in.0 in
    let late_there : day ≤ days_in_month date.year date.month = subst (λ d. d ≤ days_in_month date.year date.month) same_day date.day_in.1 in
    let late_then : day ≤ days_in_month (pos year) date.month = subst (λ y. day ≤ days_in_month y date.month) same_year late_there in
    let late : day ≤ days_in_month (pos year) month = subst (λ m. day ≤ days_in_month (pos year) m) same_month late_then in
    rw (same_year, same_month, same_day, passes year month day some lo hi early late) refl

-- numbers that are no date of the library
pub is_unread : (year month day : ℕ) → year < 10000 → ¬ (IsDate (pos year) (pos month) (pos day)) → None ≡ civil_of year month day
unfolding civil_of
is_unread year month day small none = elim (cases_Bool (is_civil year month day)) [
  | inl civil ↦
      let late = and_parts _ (nat_le day (days_in_month (pos year) month)) civil in
      let early = and_parts _ (nat_le 1 day) late.0 in
      let most = and_parts _ (nat_le month 12) early.0 in
      let least = and_parts (nat_le 1 year) (nat_le 1 month) most.0 in
      let e₁ : nat_le day (days_in_month (pos year) month) ≡ true = late.1 in
      let e₂ : nat_le 1 day ≡ true = early.1 in
      let e₃ : nat_le month 12 ≡ true = most.1 in
      let e₄ : nat_le 1 month ≡ true = least.1 in
      let fits : day ≤ days_in_month (pos year) month = grind (arith, nat_tests) in
      let some_day : 1 ≤ day = grind (arith, nat_tests) in
      let few_months : month ≤ 12 = grind (arith, nat_tests) in
      let some_month : 1 ≤ month = grind (arith, nat_tests) in
      absurd (none ((omega (arith, signed_arith), omega (arith, signed_arith)), (omega (arith, signed_arith), omega (arith, signed_arith)), (omega (arith, signed_arith), omega (arith, signed_arith))))
  | inr other ↦ rw other refl
]

-- there is no year 0
pub no_year_zero : (month day : ℕ) → None ≡ civil_of 0 month day
unfolding civil_of
no_year_zero month day = refl

-- so many dates from one on end in the calendar where the library has the last of them
pub ends_where : (first : Date) (count : ℕ) (test : Bool) → (test ≡ true) ↔ IsEpochDay (epoch_day first +ℤ pos (count - 1))
    → test ≡ ends_in_calendar (civil_day_on first) count
unfolding ends_in_calendar
ends_where first count test told = elim (cases_Bool (int_le (epoch_day first +ℤ pos (count - 1)) (days_from_civil (pos 9999) 12 31))) [
  | inl within ↦
      let has : IsEpochDay (epoch_day first +ℤ pos (count - 1)) = (omega (arith, signed_arith, epoch_day_range first), omega (arith, signed_arith, days_from_civil-max)) in
      told.1 has ∙ sym within
  | inr past ↦ elim (cases_Bool test) [
    | inl is ↦ (let has = told.0 is in absurd (omega (arith, signed_arith, has.1, days_from_civil-max)))
    | inr isnt ↦ isnt ∙ sym past
  ]
]

-- equal numbers are of one date
pub is_date_by : (y m d y₂ m₂ d₂ : ℤ) → y ≡ y₂ → m ≡ m₂ → d ≡ d₂ → IsDate y m d → IsDate y₂ m₂ d₂
is_date_by y m d y₂ m₂ d₂ year month day date =
    subst (λ x. IsDate y₂ m₂ x) day (subst (λ x. IsDate y₂ x d) month (subst (λ x. IsDate x m d) year date))

-- the number that two digits at a place write, where they are digits
abbrev pub two_read : List ℕ → ℕ → Option ℕ
two_read text place = if digits_at text place then Some (number_at text place) else None

-- the date of such numbers, where all four are there
abbrev pub date_of_parts : Option ℕ → Option ℕ → Option ℕ → Option ℕ → Option Day
date_of_parts hundreds years month day =
    option_and_then (λ h. option_and_then (λ y. option_and_then (λ m. option_and_then (λ d. civil_of (100 * h + y) m d) day) month) years) hundreds

-- where the other tests hold, the date is there where all four are digits
all_digits : (long first last a b c d : Bool) (x y z w : ℕ) → long ≡ true → first ≡ true → last ≡ true
    → date_of_parts (if a then Some x else None) (if b then Some y else None) (if c then Some z else None) (if d then Some w else None)
    ≡ (if long && a && b && first && c && last && d then civil_of (100 * x + y) z w else None)
all_digits false first last a b c d x y z w is dash second = absurd (true≢false (sym is))
all_digits true false last a b c d x y z w is dash second = absurd (true≢false (sym dash))
all_digits true true false a b c d x y z w is dash second = absurd (true≢false (sym second))
all_digits true true true false b c d x y z w is dash second = refl
all_digits true true true true false c d x y z w is dash second = refl
all_digits true true true true true false d x y z w is dash second = refl
all_digits true true true true true true false x y z w is dash second = refl
all_digits true true true true true true true x y z w is dash second = refl

-- a text of ten bytes with both dashes reads as the date of its digits
pub date_by_parts : (text : List ℕ) (hundreds years month day : Option ℕ) → length text ≡ 10 → slice_index text 4 ≡ 45 → slice_index text 7 ≡ 45
    → hundreds ≡ two_read text 0 → years ≡ two_read text 2 → month ≡ two_read text 5 → day ≡ two_read text 8
    → date_of_parts hundreds years month day ≡ date_read text
unfolding date_read
date_by_parts text hundreds years month day ten dash second is_hundreds are_years is_month is_day =
    rw (is_hundreds, are_years, is_month, is_day) (all_digits (length text == 10) (slice_index text 4 == 45) (slice_index text 7 == 45)
    (digits_at text 0) (digits_at text 2) (digits_at text 5) (digits_at text 8) (number_at text 0) (number_at text 2) (number_at text 5) (number_at text 8)
    (eq-eqb (length text) 10 ten) (eq-eqb (slice_index text 4) 45 dash) (eq-eqb (slice_index text 7) 45 second))
