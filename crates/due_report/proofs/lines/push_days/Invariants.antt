use Rattle.std.proofs.Common.{◌≡◌, ◌++◌, map}
use Rattle.calendar_dates.specs.Days.{day_on}
use Rattle.due_report.specs.Lines.{days_tails}
use Rattle.due_report.proofs.lines.push_days.Given as goal

abbrev pub invariant-loop-day : goal.invariant-loop-day
invariant-loop-day l = l.text.items ≡ l.fn.text.items ++ days_tails l.tables l.flown l.names l.starts (map day_on l.dates) l.day
