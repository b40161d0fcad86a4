use Rattle.std.proofs.Common.{◌≡◌, map}
use Rattle.calendar_dates.specs.Days.{day_on}
use Rattle.rotation_report.specs.Tails.{fleets_tails}
use Rattle.rotation_report.proofs.tails.tails_on.Given as goal

abbrev pub invariant-loop-fleet : goal.invariant-loop-fleet
invariant-loop-fleet l = l.text.items ≡ fleets_tails l.tables l.rotations l.past (map day_on l.dates) l.fleet
