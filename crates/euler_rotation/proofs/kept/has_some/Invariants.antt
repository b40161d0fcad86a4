use Rattle.std.proofs.Common.{◌≡◌}
use Rattle.std.specs.List.{list_any}
use Rattle.lines_of_flying.specs.ground_turns.Nights.{can_maintain, nights_of_tour}
use Rattle.euler_rotation.proofs.TourGone.{rest_of}
use Rattle.euler_rotation.proofs.kept.has_some.Given as goal

abbrev pub invariant-loop-place : goal.invariant-loop-place
invariant-loop-place l =
    list_any (can_maintain l.asked.tables.now) (nights_of_tour l.asked.tables.now l.asked.fleet l.legs) ≡ list_any (can_maintain l.asked.tables.now) (rest_of l.asked.tables.now l.asked.fleet l.legs l.place)
