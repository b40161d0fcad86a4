use Rattle.std.proofs.Common.{◌≡◌, ◌≤◌, ◌*◌}
use Rattle.sums.specs.Below.{sum_below}
use Rattle.lines_of_flying.specs.Lines.{nights_after}
use Rattle.rotation_report.proofs.tour_records.days_of.Given as goal

abbrev pub invariant-loop-place : goal.invariant-loop-place
invariant-loop-place l = record {
  days : l.days ≡ sum_below (nights_after l.tables l.fleet l.tour) l.place;
  few : l.days ≤ 4294967295 * l.place;
}
