use Rattle.std.proofs.Common.{◌≡◌, ◌++◌, map}
use Rattle.calendar_dates.specs.Days.{day_on}
use Rattle.rotation_report.specs.Tails.{days_lines}
use Rattle.rotation_report.proofs.tails.push_days.Given as goal

abbrev pub invariant-loop-day : goal.invariant-loop-day
invariant-loop-day l = l.text.items ≡ l.fn.text.items ++ days_lines l.tables l.flown l.past (map day_on l.dates) l.day
