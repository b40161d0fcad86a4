use Rattle.std.proofs.Common.{◌≡◌, ◌++◌}
use Rattle.calendar_dates.specs.Days.{day_on}
use Rattle.rotation_report.specs.Tails.{day_lines}
use Rattle.rotation_report.proofs.tails.push_day.Given as goal

abbrev pub invariant-loop-aircraft : goal.invariant-loop-aircraft
invariant-loop-aircraft l = l.text.items ≡ l.fn.text.items ++ day_lines l.tables l.flown (day_on l.fn.date) l.day l.aircraft
