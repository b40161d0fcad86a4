use Rattle.std.proofs.Common.{◌≡◌}
use Rattle.sums.specs.Places.{list_below}
use Rattle.lines_of_flying.specs.Lines.{day_of, legs_on_day}
use Rattle.lines_of_flying.proofs.days.cut.Given as goal

abbrev pub invariant-loop-place : goal.invariant-loop-place
invariant-loop-place l = record {
  ended : l.lines.items ≡ list_below (λ d. legs_on_day l.tables l.fleet l.tour d l.place) (day_of l.tables l.fleet l.tour l.place);
  begun : l.line.items ≡ legs_on_day l.tables l.fleet l.tour (day_of l.tables l.fleet l.tour l.place) l.place;
}
