use Rattle.std.proofs.Common.{◌≡◌, ◌++◌}
use Rattle.calendar_dates.specs.Days.{day_on}
use Rattle.due_report.specs.Lines.{tails_on}
use Rattle.due_report.proofs.lines.push_day.Given as goal

abbrev pub invariant-loop-tail : goal.invariant-loop-tail
invariant-loop-tail l = l.text.items ≡ l.fn.text.items ++ tails_on l.tables l.flown l.names l.starts (day_on l.fn.date) l.day l.tail
