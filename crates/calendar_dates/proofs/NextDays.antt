-- The days after a date, one by one.
use Rattle.std.proofs.Common.{◌≡◌, ℕ, zero, suc, ◌+◌, ◌<◌, ◌≤◌, true, false, nat_lt, refl, sym, ap, ◌∙◌, inl, inr, arith, pos, ◌+ℤ◌, ◌<ℤ◌}
use Rattle.std.proofs.lemmas.Bool.{cases_lt, le-ltb, lt-ltb}
use Rattle.jiff_core.specs.declared.civil.date.Date.{Date}
use Rattle.jiff_core.specs.Calendar.{days_from_civil, days_in_month}
use Rattle.jiff_core.specs.Date.{epoch_day}
use Rattle.jiff_core.proofs.SignedLemmas.{signed_arith}
use Rattle.jiff_core.proofs.CalendarLemmas.{days_in_month_bounds}
use Rattle.jiff_core.proofs.DateLemmas.{days_from_civil-day, days_from_civil-max, days_from_civil-next_month, days_from_civil-next_year, epoch_day_injective, epoch_day_range}
use Rattle.calendar_dates.specs.Days.{Day, civil_day_on, day_after, next_day}

-- the date of the next day
record IsNextDate (a b : Date) : Type 0 where
  number : epoch_day b ≡ epoch_day a +ℤ pos 1
  day : civil_day_on b ≡ next_day (civil_day_on a)

in_month : (a : Date) → a.day < days_in_month a.year a.month → (b : Date) × IsNextDate a b
in_month a within =
    let test : nat_lt a.day (days_in_month a.year a.month) ≡ true = lt-ltb a.day (days_in_month a.year a.month) within in
    let same = days_from_civil-day a.year a.month (a.day + 1) a.day (omega arith) a.day_in.0 in (
      record { year = a.year; month = a.month; day = a.day + 1; year_in = a.year_in; month_in = a.month_in; day_in = (omega arith, omega arith) },
      record { number = omega (arith, signed_arith, same); day = rw test refl },
    )

in_year : (a : Date) → days_in_month a.year a.month ≤ a.day → a.month < 12 → (b : Date) × IsNextDate a b
in_year a last within =
    let end : nat_lt a.day (days_in_month a.year a.month) ≡ false = le-ltb a.day (days_in_month a.year a.month) last in
    let test : nat_lt a.month 12 ≡ true = lt-ltb a.month 12 within in
    let is_last : a.day ≡ days_in_month a.year a.month = omega (arith, a.day_in.1) in
    let long = days_in_month_bounds a.year (a.month + 1) in (
      record { year = a.year; month = a.month + 1; day = 1; year_in = a.year_in; month_in = (omega arith, omega arith); day_in = (omega arith, omega arith) },
      record { number = days_from_civil-next_month a.year a.month a.day a.month_in.0 is_last; day = rw (end, test) refl },
    )

next_year : (a : Date) → days_in_month a.year a.month ≤ a.day → 12 ≤ a.month → epoch_day a <ℤ pos 2_932_896 → (b : Date) × IsNextDate a b
next_year a last over less =
    let end : nat_lt a.day (days_in_month a.year a.month) ≡ false = le-ltb a.day (days_in_month a.year a.month) last in
    let test : nat_lt a.month 12 ≡ false = le-ltb a.month 12 over in
    let december : a.month ≡ 12 = omega (arith, a.month_in.1) in
    let is_last : a.day ≡ 31 = thirty_one a.month december (omega (arith, a.day_in.1)) in
    let number : epoch_day a ≡ days_from_civil a.year 12 31 = rw (december, is_last) (refl {a = days_from_civil a.year 12 31}) in
    let before : ¬ (a.year ≡ pos 9999) = λ same. (let e : epoch_day a ≡ days_from_civil (pos 9999) 12 31 = number ∙ ap (λ y. days_from_civil y 12 31) same in omega (arith, signed_arith, days_from_civil-max)) in
    let next = days_from_civil-next_year a.year (a.year +ℤ pos 1) (omega (arith, signed_arith, a.year_in)) (refl {a = a.year +ℤ pos 1}) in (
      record { year = a.year +ℤ pos 1; month = 1; day = 1; year_in = (omega (arith, signed_arith, a.year_in), omega (arith, signed_arith, a.year_in)); month_in = (omega arith, omega arith); day_in = (omega arith, omega (arith, days_in_month_bounds (a.year +ℤ pos 1) 1)) },
      record { number = next ∙ ap (λ z. z +ℤ pos 1) (sym number); day = rw (end, test) refl },
    )
  where
    thirty_one : (m : ℕ) → m ≡ 12 → a.day ≡ days_in_month a.year m → a.day ≡ 31
    thirty_one m is same = rw is at same

next_date : (a : Date) → epoch_day a <ℤ pos 2_932_896 → (b : Date) × IsNextDate a b
next_date a less = elim (cases_lt a.day (days_in_month a.year a.month)) [
  | inl within ↦ in_month a within
  | inr last ↦ elim (cases_lt a.month 12) [
    | inl within ↦ in_year a last within
    | inr over ↦ next_year a last over less
  ]
]

from_next : (d : Day) (n : ℕ) → day_after (next_day d) n ≡ day_after d (suc n)
unfolding day_after
from_next d zero = refl
from_next d (suc n) = ap next_day (from_next d n)

-- the date so many day numbers later is so many days later
pub days_later : (n : ℕ) (a b : Date) → epoch_day b ≡ epoch_day a +ℤ pos n → civil_day_on b ≡ day_after (civil_day_on a) n
unfolding day_after
days_later zero a b later =
    let same = epoch_day_injective b a (omega (arith, signed_arith)) in
    rw (same.0, same.1, same.2) refl
days_later (suc n) a b later =
    let less : epoch_day a <ℤ pos 2_932_896 = omega (arith, signed_arith, epoch_day_range b) in
    let next = next_date a less in
    days_later n next.0 b (omega (arith, signed_arith, next.1.number)) ∙ ap (λ d. day_after d n) next.1.day ∙ from_next (civil_day_on a) n
