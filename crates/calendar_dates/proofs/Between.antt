-- The days from one date to another, by what the library counts from its first date on.
use Rattle.std.proofs.Common.{◌≡◌, ◌↔◌, ◌-◌, ◌≤◌, ◌<◌, ℕ, ℤ, pos, negsuc, ◌+ℤ◌, ◌-ℤ◌, ◌<ℤ◌, ◌≤ℤ◌, Option, Some, None, IfSome, refl, sym, ap, inl, inr, arith}
use Rattle.std.specs.Prelude.{SomeIff}
use Rattle.std.proofs.lemmas.Int.{by_lt_z}
use Rattle.jiff_core.specs.Calendar.{day_count}
use Rattle.jiff_core.proofs.CalendarLemmas.{day_count-day_of_year, day_count-later_year, days_from_civil-day_count}
use Rattle.jiff_core.proofs.DateLemmas.{cases_date, epoch_day-lt, epoch_day_same}
use Rattle.jiff_core.proofs.MarchLemmas.{day_count-early}
use Rattle.jiff_core.proofs.SignedLemmas.{signed_arith}
use Rattle.calendar_dates.specs.Days.{IsCounted, IsEarlier, day_after, day_number, day_on, days_between, where_natural}
use Rattle.calendar_dates.specs.declared.date.Date.{Date}
use Rattle.calendar_dates.proofs.Civil.{civil_date}
use Rattle.calendar_dates.proofs.NextDays.{days_later}

none_below : (z : ℤ) → z <ℤ pos 0 → None ≡ where_natural z
none_below (pos n) below = absurd (omega (arith, signed_arith, below))
none_below (negsuc n) below = refl

module _ (first date : Date) (early late : ℕ) (first_is : IsCounted first early) (date_is : IsCounted date late) where
  number_later : (n : ℕ) → early ≤ late → n ≡ late - early → day_number (day_on date) ≡ day_number (day_on first) +ℤ pos n
  number_later n le is = omega (arith, signed_arith, first_is.number, date_is.number)

  pub days_are : (found : Option ℕ) → SomeIff found (early ≤ late) (late - early) → found ≡ days_between (day_on first) (day_on date)
  unfolding days_between
  days_are None past = none_below (day_number (day_on date) -ℤ day_number (day_on first)) (omega (arith, signed_arith, first_is.number, date_is.number, past))
  days_are (Some n) found =
      let apart : day_number (day_on date) -ℤ day_number (day_on first) ≡ pos n = omega (arith, signed_arith, number_later n found.0 found.1) in
      sym (ap where_natural apart)

  less_is_earlier : late < early → IsEarlier (day_on date) (day_on first)
  less_is_earlier less = elim (cases_date (civil_date date) (civil_date first)) [
    | inl earlier ↦ earlier
    | inr (inl later) ↦ absurd (omega (arith, signed_arith, first_is.number, date_is.number, epoch_day-lt (civil_date first) (civil_date date) later))
    | inr (inr same) ↦ absurd (omega (arith, signed_arith, first_is.number, date_is.number, epoch_day_same (civil_date date) (civil_date first) same.0 same.1 same.2))
  ]

  earlier_is_less : IsEarlier (day_on date) (day_on first) → late < early
  earlier_is_less earlier = omega (arith, signed_arith, first_is.number, date_is.number, epoch_day-lt (civil_date date) (civil_date first) earlier)

  pub none_where_earlier : (found : Option ℕ) → SomeIff found (early ≤ late) (late - early) → (found ≡ None) ↔ IsEarlier (day_on date) (day_on first)
  none_where_earlier None past = (λ none. less_is_earlier (omega (arith, past)), λ earlier. refl)
  none_where_earlier (Some n) found = (λ none. cc none, λ earlier. absurd (omega (arith, found.0, earlier_is_less earlier)))

  pub some_later : (found : Option ℕ) → SomeIff found (early ≤ late) (late - early) → IfSome found (λ days. day_on date ≡ day_after (day_on first) days)
  some_later None past = tt
  some_later (Some n) found = days_later n (civil_date first) (civil_date date) (number_later n found.0 found.1)

  -- from the year 1 on
  pub few_days : (found : Option ℕ) → late ≤ 7_304_483 → SomeIff found (early ≤ late) (late - early) → pos 1 ≤ℤ first.year → IfSome found (λ days. days ≤ 3_652_058)
  few_days None most past from = tt
  few_days (Some n) most found from = omega (arith, signed_arith, first_is.number, most, found.1, days_from_civil-day_count first.year first.month first.day, day_count-day_of_year first.year first.month first.day first.day_in.0, year_begins)
    where
      first_year : day_count (pos 1) 1 1 ≡ 3_652_791
      first_year = day_count-early (pos 1) 10_000 1 1 refl (omega arith) (omega arith) (omega arith)

      year_begins : 3_652_791 ≤ day_count first.year 1 1
      year_begins = by_lt_z (pos 1) first.year
          (λ later. omega (arith, first_year, day_count-later_year (pos 1) first.year (omega (arith, signed_arith)) later))
          (λ le. let same : first.year ≡ pos 1 = omega (arith, signed_arith, from) in rw same (omega (arith, first_year)))
