use Rattle.std.proofs.Common.{◌≡◌, map}
use Rattle.calendar_dates.specs.Days.{day_on, days_from}
use Rattle.calendar_dates.proofs.following.dates_from.Given as goal

abbrev pub invariant-loop-days : goal.invariant-loop-days
invariant-loop-days l = map day_on l.dates.items ≡ days_from (day_on l.fn.first) l.days
