use Rattle.lines_of_flying.specs.ground_turns.Maps.{departures_of}
use Rattle.lines_of_flying.specs.Grounds.{AreMarks}
use Rattle.lines_of_flying.proofs.ground.marks_of_departing.Given as goal

abbrev pub invariant-loop-leg : goal.invariant-loop-leg
invariant-loop-leg l = AreMarks (departures_of l.pairs) l.leg l.marks.items
