use Rattle.std.proofs.Common.{◌≡◌, map}
use Rattle.calendar_dates.specs.Days.{day_on}
use Rattle.due_report.specs.Lines.{fleets_due}
use Rattle.due_report.proofs.lines.due_on.Given as goal

abbrev pub invariant-loop-fleet : goal.invariant-loop-fleet
invariant-loop-fleet l = l.text.items ≡ fleets_due l.tables l.rotations l.tails l.placings (map day_on l.dates) l.fleet
